use Rattle.std.proofs.Common.{sym, ap, ◌∙◌, subst}
use Rattle.sg_kinds.specs.Plain.{plain}
use Rattle.sg_kinds.specs.Fits.{Fits}
use Rattle.sg_build.proofs.Told.{the_term}
use Rattle.sg_select.proofs.Leading.{held}
use Rattle.sg_edits.specs.Choice.{Put, one}
use Rattle.sg_edits.specs.Edits.{phylum_in}
use Rattle.sg_edits.proofs.Placed.{at_is, fits_phylum, fits_there, put_fits}
use Rattle.sg_edits.proofs.here.typed.Goals as goal

pub returns-clause-choice : goal.returns-clause-choice
returns-clause-choice c = λ root t u placed.
    let g = c.args.terms.now in
    let live = c.requires.live in
    let p = fits_phylum g.spec (the_term g c.args.at) c.phylum.result (c.phylum.ensures.term (the_term g c.args.at) (held g c.facts.ensures c.args.at live)) in
    let made = c.in_ok-term.ensures ∙ ap (λ s. plain s c.args.v.now c.phylum.result) c.spec.ensures ∙ ap (plain g.spec c.args.v.now) (sym p) in
    c.in_ok-put.ensures root t u u placed placed ∙ ap (λ s. Put u s (one u)) made
    ∙ sym (at_is g c.facts.ensures root t u c.args.at (λ x. Put u (plain g.spec c.args.v.now (phylum_in g.spec x)) (one u)) placed live)

pub returns-clause-fits : goal.returns-clause-fits
returns-clause-fits c = λ root t u placed.
    let g = c.args.terms.now in
    let live = c.requires.live in
    let holds = held g c.facts.ensures c.args.at live in
    let stood = c.phylum.ensures.term (the_term g c.args.at) holds in
    let made = c.in_ok-term.ensures ∙ ap (λ s. plain s c.args.v.now c.phylum.result) c.spec.ensures in
    let fits = c.requires.value (the_term g c.args.at) c.phylum.result holds stood in
    put_fits g.spec t _ u (one u) c.in_ok-term.term (c.in_ok-put.ensures root t u u placed placed)
    (fits_there g c.facts.ensures root t u c.args.at c.in_ok-term.term c.phylum.result placed live stood (subst (λ s. Fits g.spec s c.phylum.result) (sym made) fits))
