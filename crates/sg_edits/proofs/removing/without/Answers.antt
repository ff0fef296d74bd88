use Rattle.std.proofs.Common.{sym, ap, ◌∙◌, subst}
use Rattle.sg_kinds.specs.Fits.{Fits}
use Rattle.sg_groves.proofs.Held.{held_fits, one_term}
use Rattle.sg_build.proofs.Told.{the_term}
use Rattle.sg_select.proofs.Leading.{held}
use Rattle.sg_edits.specs.Choice.{Put, one}
use Rattle.sg_edits.specs.Edits.{emptied, left_at, rest_behind, without}
use Rattle.sg_edits.proofs.Behind.{behind_fits}
use Rattle.sg_edits.proofs.Listed.{gone_all, put_rest}
use Rattle.sg_edits.proofs.Placed.{at_is, fits_there, put_fits}
use Rattle.sg_edits.proofs.removing.without.Goals as goal

pub returns-then-is_last-clause-choice : goal.returns-then-is_last-clause-choice
returns-then-is_last-clause-choice c = λ root t u placed.
    let g = c.args.terms.now in
    let is = c.facts.ensures in
    let live = c.requires.live in
    let x = the_term g c.args.n in
    let here = held g is c.args.n live in
    let last = c.is_last.ensures root t x (rest_behind c.args.count x) u placed here (c.behind-rest.ensures.holds x here) in
    c.in_ok-emptied.ensures.choice root t u placed ∙ at_is g is root t u c.args.n (emptied g.spec t c.args.deletes u) placed live
    ∙ gone_all g.spec t x u c.args.deletes c.args.count (sym last ∙ c.if-is_last.true)
    ∙ sym (at_is g is root t u c.args.n (without g.spec t c.args.deletes c.args.count u) placed live)

pub returns-clause-choice : goal.returns-clause-choice
returns-clause-choice c = λ root t u placed.
    let g = c.args.terms.now in
    let is = c.facts.ensures in
    let live = c.requires.live in
    let x = the_term g c.args.n in
    let y = rest_behind c.args.count x in
    let here = held g is c.args.n live in
    let below = c.behind-rest.ensures.holds x here in
    let last = c.is_last.ensures root t x y u placed here below in
    let left = c.left-first.ensures.left root t y u placed below in
    let term = one_term g c.behind-rest.result c.in_ok-term.term y c.in_ok-term.ensures below in
    c.in_ok-put.ensures root t u left.place placed left.placed
    ∙ ap (λ v. Put u c.in_ok-term.term (one v)) left.is ∙ ap (λ s. Put u s (one (left_at g.spec t u y))) term
    ∙ put_rest g.spec t x u c.args.deletes c.args.count (sym last ∙ c.if-is_last.false)
    ∙ sym (at_is g is root t u c.args.n (without g.spec t c.args.deletes c.args.count u) placed live)

pub returns-clause-fits : goal.returns-clause-fits
returns-clause-fits c = λ root t u placed.
    let g = c.args.terms.now in
    let is = c.facts.ensures in
    let live = c.requires.live in
    let x = the_term g c.args.n in
    let y = rest_behind c.args.count x in
    let p = live.node.label.phylum in
    let here = held g is c.args.n live in
    let below = c.behind-rest.ensures.holds x here in
    let left = c.left-first.ensures.left root t y u placed below in
    let term = one_term g c.behind-rest.result c.in_ok-term.term y c.in_ok-term.ensures below in
    let stood = held_fits g is c.args.n live.node x live.found here in
    let fits = subst (λ s. Fits g.spec s p) (sym term) (behind_fits g.spec is.sound.shapes c.args.count x p (c.requires.long x here) stood) in
    put_fits g.spec t _ u _ c.in_ok-term.term (c.in_ok-put.ensures root t u left.place placed left.placed)
    (fits_there g is root t u c.args.n c.in_ok-term.term p placed live stood fits)
