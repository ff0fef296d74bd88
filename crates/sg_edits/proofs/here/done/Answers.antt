use Rattle.std.proofs.Common.{refl, sym, ap, ◌∙◌}
use Rattle.sg_kinds.specs.ValueOf.{value_of}
use Rattle.sg_groves.proofs.Held.{held_fits}
use Rattle.sg_build.proofs.Told.{the_term}
use Rattle.sg_matching.specs.Transformation.{transformation}
use Rattle.sg_matching.specs.Transformation as given
use Rattle.sg_select.proofs.Leading.{held}
use Rattle.sg_edits.specs.Choice.{Put, one}
use Rattle.sg_edits.specs.Edits.{by_given, phylum_in}
use Rattle.sg_kinds.specs.Terms.{Term}
use Rattle.sg_edits.proofs.Transformed.{given_is, outcome_put}
use Rattle.sg_edits.proofs.Placed.{at_is, fits_phylum, fits_there, put_fits}
use Rattle.sg_edits.proofs.here.done.Goals as goal

pub returns-in_ok-put-in-Ok-clause-choice : goal.returns-in_ok-put-in-Ok-clause-choice
returns-in_ok-put-in-Ok-clause-choice c = λ root t u placed.
    let g = c.args.terms.now in
    let live = c.requires.live in
    let x = the_term g c.args.at in
    let p = live.node.label.phylum in
    let holds = held g c.facts.ensures c.args.at live in
    let fits = held_fits g c.facts.ensures c.args.at live.node x live.found holds in
    let s = c.in-Ok.term in
    c.in_ok-put-in-Ok.ensures root t u u placed placed ∙ ap (λ y. Put u y (one u)) (c.in-Ok.ensures.plain p x holds fits)
    ∙ sym (outcome_put g.spec t u p s (c.in-Ok.ensures.fits p x holds fits))
    ∙ given_is g.spec t x u p c.args.name.now (given.Gives (value_of s)) (fits_phylum g.spec x p fits) (c.in-Ok.ensures.given p x holds fits)
    ∙ sym (at_is g c.facts.ensures root t u c.args.at (λ (y : Term). by_given g.spec t u (phylum_in g.spec y) (transformation g.spec (phylum_in g.spec y) c.args.name.now (value_of y))) placed live)

pub returns-in_ok-put-in-Ok-clause-fits : goal.returns-in_ok-put-in-Ok-clause-fits
returns-in_ok-put-in-Ok-clause-fits c = λ root t u placed.
    let g = c.args.terms.now in
    let live = c.requires.live in
    let x = the_term g c.args.at in
    let p = live.node.label.phylum in
    let holds = held g c.facts.ensures c.args.at live in
    let fits = held_fits g c.facts.ensures c.args.at live.node x live.found holds in
    put_fits g.spec t _ u (one u) c.in-Ok.term (c.in_ok-put-in-Ok.ensures root t u u placed placed)
    (fits_there g c.facts.ensures root t u c.args.at c.in-Ok.term p placed live fits (c.in-Ok.ensures.fits p x holds fits))

pub returns-in_ok-refused-in-Err-clause-choice : goal.returns-in_ok-refused-in-Err-clause-choice
returns-in_ok-refused-in-Err-clause-choice c = λ root t u placed.
    let g = c.args.terms.now in
    let live = c.requires.live in
    let x = the_term g c.args.at in
    let p = live.node.label.phylum in
    let holds = held g c.facts.ensures c.args.at live in
    let fits = held_fits g c.facts.ensures c.args.at live.node x live.found holds in
    let gives = transformation g.spec p c.args.name.now (value_of x) in
    c.in_ok-refused-in-Err.ensures.choice g.spec t u p gives (c.in-Err.ensures.given p x holds fits)
    ∙ given_is g.spec t x u p c.args.name.now gives (fits_phylum g.spec x p fits) refl
    ∙ sym (at_is g c.facts.ensures root t u c.args.at (λ (y : Term). by_given g.spec t u (phylum_in g.spec y) (transformation g.spec (phylum_in g.spec y) c.args.name.now (value_of y))) placed live)

pub returns-in_ok-refused-in-Err-clause-fits : goal.returns-in_ok-refused-in-Err-clause-fits
returns-in_ok-refused-in-Err-clause-fits c = λ root t u placed. c.in_ok-refused-in-Err.ensures.fits c.args.terms.now.spec t
