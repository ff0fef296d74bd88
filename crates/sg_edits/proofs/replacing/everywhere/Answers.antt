use Rattle.std.proofs.Common.{sym, ap, ◌∙◌}
use Rattle.sg_kinds.specs.Terms.{Term}
use Rattle.sg_groves.proofs.Held.{held_fits}
use Rattle.sg_build.proofs.Told.{the_term}
use Rattle.sg_select.proofs.Leading.{held, sub_there}
use Rattle.sg_search.specs.ReplacedAll.{replaced_all}
use Rattle.sg_edits.specs.Choice.{limited, one}
use Rattle.sg_edits.specs.Edits.{by_replaced}
use Rattle.sg_edits.proofs.Placed.{at_is, fits_there, put_fits}
use Rattle.sg_edits.proofs.replacing.everywhere.Goals as goal

pub returns-in_ok-put-in-Ok-clause-choice : goal.returns-in_ok-put-in-Ok-clause-choice
returns-in_ok-put-in-Ok-clause-choice c = λ root t u placed.
    let g = c.args.terms.now in
    let live = c.requires.live in
    let x = the_term g c.args.at in
    let holds = held g c.facts.ensures c.args.at live in
    ap (limited t)
    (c.in_ok-put-in-Ok.ensures root t u u placed placed ∙ sym (ap (by_replaced u) (c.in-Ok.ensures.given x holds))
    ∙ sym (at_is g c.facts.ensures root t u c.args.at (λ (y : Term). by_replaced u (replaced_all g.spec c.args.name.now y)) placed live))

pub returns-in_ok-put-in-Ok-clause-fits : goal.returns-in_ok-put-in-Ok-clause-fits
returns-in_ok-put-in-Ok-clause-fits c = λ root t u placed.
    let g = c.args.terms.now in
    let live = c.requires.live in
    let x = the_term g c.args.at in
    let p = live.node.label.phylum in
    let holds = held g c.facts.ensures c.args.at live in
    let fits = held_fits g c.facts.ensures c.args.at live.node x live.found holds in
    put_fits g.spec t _ u (one u) c.in-Ok.term (c.in_ok-put-in-Ok.ensures root t u u placed placed)
    (fits_there g c.facts.ensures root t u c.args.at c.in-Ok.term p placed live fits (c.in-Ok.ensures.fits p x holds fits))

pub returns-in_ok-unmade-in-Err-clause-choice : goal.returns-in_ok-unmade-in-Err-clause-choice
returns-in_ok-unmade-in-Err-clause-choice c = λ root t u placed.
    let g = c.args.terms.now in
    let live = c.requires.live in
    let x = the_term g c.args.at in
    let holds = held g c.facts.ensures c.args.at live in
    c.in_ok-unmade-in-Err.ensures.choice g.spec c.args.name.now t x u (sub_there g c.facts.ensures root t x u c.args.at placed holds) (c.in-Err.ensures.given x holds)
    ∙ ap (limited t) (sym (at_is g c.facts.ensures root t u c.args.at (λ (y : Term). by_replaced u (replaced_all g.spec c.args.name.now y)) placed live))

pub returns-in_ok-unmade-in-Err-clause-fits : goal.returns-in_ok-unmade-in-Err-clause-fits
returns-in_ok-unmade-in-Err-clause-fits c = λ root t u placed. c.in_ok-unmade-in-Err.ensures.fits c.args.terms.now.spec t
