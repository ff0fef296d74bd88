use Rattle.std.proofs.Common.{sym, ap, ◌∙◌, ◌∷◌, subst}
use Rattle.sg_kinds.specs.Fits.{Fits}
use Rattle.sg_groves.proofs.Held.{held_fits, one_term}
use Rattle.sg_build.proofs.Told.{the_term}
use Rattle.sg_select.proofs.Leading.{held}
use Rattle.sg_edits.specs.Choice.{Put, one}
use Rattle.sg_edits.specs.Edits.{behind_at, grown, longer, rest_behind}
use Rattle.sg_edits.proofs.Behind.{behind_fits}
use Rattle.sg_edits.proofs.Placed.{at_is, fits_there, put_fits}
use Rattle.sg_edits.proofs.Shaped.{longer_fits}
use Rattle.sg_edits.proofs.inserting.grown.Goals as goal

pub returns-clause-choice : goal.returns-clause-choice
returns-clause-choice c = λ root t u placed.
    let g = c.args.terms.now in
    let is = c.facts.ensures in
    let x = the_term g c.args.n in
    let here = held g is c.args.n c.requires.live in
    let place = behind_at c.args.count u in
    let there = c.behind-place.ensures.placed root t u placed in
    let rest = one_term g c.behind-place.result c.in_ok-rest.rest (rest_behind c.args.count x) c.in_ok-rest.ensures (c.behind-place.ensures.holds x here) in
    c.in_ok-put.ensures root t place place there there
    ∙ ap (λ s. Put place s (one (0 ∷ place))) (c.in_ok-term.ensures x here ∙ ap (longer g.spec x) rest)
    ∙ sym (at_is g is root t u c.args.n (grown g.spec t c.args.count u) placed c.requires.live)

pub returns-clause-fits : goal.returns-clause-fits
returns-clause-fits c = λ root t u placed.
    let g = c.args.terms.now in
    let is = c.facts.ensures in
    let live = c.requires.live in
    let x = the_term g c.args.n in
    let y = rest_behind c.args.count x in
    let p = live.node.label.phylum in
    let here = held g is c.args.n live in
    let place = behind_at c.args.count u in
    let there = c.behind-place.ensures.placed root t u placed in
    let below = c.behind-place.ensures.holds x here in
    let stood = held_fits g is c.args.n live.node x live.found here in
    let fits = behind_fits g.spec is.sound.shapes c.args.count x p (c.requires.long x here) stood in
    let same = one_term g c.behind-place.result y (the_term g c.behind-place.result) below (held g is c.behind-place.result c.behind-place.ensures.live) in
    let rest = one_term g c.behind-place.result c.in_ok-rest.rest y c.in_ok-rest.ensures below in
    let term = c.in_ok-term.ensures x here ∙ ap (longer g.spec x) rest in
    put_fits g.spec t _ place (one (0 ∷ place)) c.in_ok-term.term (c.in_ok-put.ensures root t place place there there)
    (fits_there g is root t place c.behind-place.result c.in_ok-term.term p there c.behind-place.ensures.live (subst (λ s. Fits g.spec s p) same fits)
    (subst (λ s. Fits g.spec s p) (sym term) (longer_fits g.spec is.sound.shapes x y p stood (c.requires.list x here) fits)))
