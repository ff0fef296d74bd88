use Rattle.std.proofs.Common.{sym, ap, ◌∙◌, ◌∷◌, cond, subst}
use Rattle.sg_kinds.specs.Fits.{Fits}
use Rattle.sg_build.proofs.Told.{the_term}
use Rattle.sg_select.proofs.Leading.{held}
use Rattle.sg_edits.specs.Choice.{Put}
use Rattle.sg_edits.proofs.Placed.{fits_there, put_fits}
use Rattle.sg_edits.proofs.pasting.put_clip.Goals as goal

pub returns-clause-choice : goal.returns-clause-choice
returns-clause-choice c = λ root t u placed.
    let clip = c.args.clip.now in
    c.in_ok-put.ensures root t u u placed placed ∙ ap (λ s. Put u s (record { place = cond c.is_run.result (0 ∷ u) u; count = clip.count })) c.in_ok-term.ensures
    ∙ ap (λ b. Put u clip.term (record { place = cond b (0 ∷ u) u; count = clip.count })) c.is_run.ensures

pub returns-clause-fits : goal.returns-clause-fits
returns-clause-fits c = λ root t u placed.
    let g = c.args.terms.now in
    let is = c.facts.ensures in
    let live = c.requires.live in
    let clip = c.args.clip.now in
    let stood = c.requires.fits (the_term g c.args.at) (held g is c.args.at live) in
    let fits = subst (λ s. Fits g.spec s clip.phylum) (sym c.in_ok-term.ensures) c.requires.clip in
    put_fits g.spec t _ u _ c.in_ok-term.term (c.in_ok-put.ensures root t u u placed placed)
    (fits_there g is root t u c.args.at c.in_ok-term.term clip.phylum placed live stood fits)
