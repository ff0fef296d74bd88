use Rattle.std.proofs.Common.{sym, ap, ◌∙◌, ◌∷◌, cond, subst}
use Rattle.sg_kinds.specs.Fits.{Fits}
use Rattle.sg_groves.proofs.Held.{held_fits, one_term}
use Rattle.sg_build.proofs.Told.{the_term}
use Rattle.sg_script.specs.declared.message.Message.TheVariants as message
use Rattle.sg_select.proofs.Leading.{held}
use Rattle.sg_edits.specs.Choice.{Put, Refused}
use Rattle.sg_edits.specs.Edits.{before, pasted_over, rest_behind}
use Rattle.sg_edits.proofs.Behind.{behind_fits}
use Rattle.sg_edits.proofs.Clipped.{before_fits}
use Rattle.sg_edits.proofs.Placed.{at_is, fits_there, put_fits}
use Rattle.sg_edits.proofs.pasting.pasted_over.Goals as goal

pub returns-then-not-suits-clause-choice : goal.returns-then-not-suits-clause-choice
returns-then-not-suits-clause-choice c = λ root t u placed.
    let g = c.args.terms.now in
    let is = c.facts.ensures in
    let live = c.requires.live in
    let clip = c.args.clip.now in
    let x = the_term g c.args.n in
    let y = rest_behind c.args.count x in
    let other = sym (c.suits.ensures x (held g is c.args.n live)) ∙ c.if-not-suits.true in
    sym (ap (λ b. cond b (Put u (before g.spec clip x y) (record { place = 0 ∷ u; count = clip.count })) (Refused message.Phylum)) other)
    ∙ sym (at_is g is root t u c.args.n (pasted_over g.spec t c.args.count clip u) placed live)

pub returns-clause-choice : goal.returns-clause-choice
returns-clause-choice c = λ root t u placed.
    let g = c.args.terms.now in
    let is = c.facts.ensures in
    let live = c.requires.live in
    let clip = c.args.clip.now in
    let x = the_term g c.args.n in
    let y = rest_behind c.args.count x in
    let here = held g is c.args.n live in
    let same = sym (c.suits.ensures x here) ∙ c.if-not-suits.false in
    let rest = one_term g c.behind.result c.in_ok-rest.rest y c.in_ok-rest.ensures (c.behind.ensures.holds x here) in
    c.in_ok-put.ensures root t u u placed placed
    ∙ ap (λ s. Put u s (record { place = 0 ∷ u; count = clip.count })) (c.in_ok-term.ensures x here ∙ ap (before g.spec clip x) rest)
    ∙ sym (ap (λ b. cond b (Put u (before g.spec clip x y) (record { place = 0 ∷ u; count = clip.count })) (Refused message.Phylum)) same)
    ∙ sym (at_is g is root t u c.args.n (pasted_over g.spec t c.args.count clip u) placed live)

pub returns-clause-fits : goal.returns-clause-fits
returns-clause-fits c = λ root t u placed.
    let g = c.args.terms.now in
    let is = c.facts.ensures in
    let live = c.requires.live in
    let clip = c.args.clip.now in
    let x = the_term g c.args.n in
    let y = rest_behind c.args.count x in
    let p = live.node.label.phylum in
    let here = held g is c.args.n live in
    let same = sym (c.suits.ensures x here) ∙ c.if-not-suits.false in
    let rest = one_term g c.behind.result c.in_ok-rest.rest y c.in_ok-rest.ensures (c.behind.ensures.holds x here) in
    let term = c.in_ok-term.ensures x here ∙ ap (before g.spec clip x) rest in
    let stood = held_fits g is c.args.n live.node x live.found here in
    let behind = behind_fits g.spec is.sound.shapes c.args.count x p (c.requires.long x here) stood in
    let fits = before_fits g.spec is.sound.shapes x y clip p stood (c.requires.list x here) c.requires.clip same behind in
    put_fits g.spec t _ u _ c.in_ok-term.term (c.in_ok-put.ensures root t u u placed placed)
    (fits_there g is root t u c.args.n c.in_ok-term.term p placed live stood (subst (λ s. Fits g.spec s p) (sym term) fits))
