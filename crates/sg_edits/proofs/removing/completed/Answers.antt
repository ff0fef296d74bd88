use Rattle.std.proofs.Common.{sym, ap, ◌∙◌, ◌∷◌, cond, subst}
use Rattle.sg_kinds.specs.Completing.{completing}
use Rattle.sg_kinds.specs.Fits.{Fits}
use Rattle.sg_kinds.proofs.MadeFits.{completing_fits}
use Rattle.sg_build.proofs.Told.{the_term}
use Rattle.sg_select.proofs.Leading.{held}
use Rattle.sg_edits.specs.Choice.{Put, one}
use Rattle.sg_edits.specs.Edits.{completed}
use Rattle.sg_edits.proofs.Placed.{at_is, fits_phylum, fits_there, put_fits}
use Rattle.sg_edits.proofs.Shaped.{phylum_low}
use Rattle.sg_edits.proofs.removing.completed.Goals as goal

pub returns-clause-choice : goal.returns-clause-choice
returns-clause-choice c = λ root t u placed.
    let g = c.args.terms.now in
    let p = fits_phylum g.spec (the_term g c.args.at) c.phylum.result (c.phylum.ensures.term (the_term g c.args.at) (held g c.facts.ensures c.args.at c.requires)) in
    let made = c.in_ok-term.ensures ∙ ap (λ s. completing s c.phylum.result) c.spec.ensures ∙ ap (completing g.spec) (sym p) in
    c.in_ok-put.ensures root t u u placed placed ∙ ap (λ s. Put u s (one (cond c.args.first (0 ∷ u) u))) made
    ∙ sym (at_is g c.facts.ensures root t u c.args.at (completed g.spec c.args.first u) placed c.requires)

pub returns-clause-fits : goal.returns-clause-fits
returns-clause-fits c = λ root t u placed.
    let g = c.args.terms.now in
    let stood = c.phylum.ensures.term (the_term g c.args.at) (held g c.facts.ensures c.args.at c.requires) in
    let made = c.in_ok-term.ensures ∙ ap (λ s. completing s c.phylum.result) c.spec.ensures in
    let fits = completing_fits g.spec c.facts.ensures.sound.shapes c.phylum.result (phylum_low g.spec c.facts.ensures.sound.shapes (the_term g c.args.at) c.phylum.result stood) in
    put_fits g.spec t _ u (one (cond c.args.first (0 ∷ u) u)) c.in_ok-term.term (c.in_ok-put.ensures root t u u placed placed)
    (fits_there g c.facts.ensures root t u c.args.at c.in_ok-term.term c.phylum.result placed c.requires stood (subst (λ s. Fits g.spec s c.phylum.result) (sym made) fits))
