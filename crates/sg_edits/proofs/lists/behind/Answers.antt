use Rattle.std.proofs.Common.{sym, ap, ◌∙◌, subst, arith, ◌+◌, ◌<◌, ◌≡◌}
use Rattle.sg_groves.specs.Holds.{Holds, IsPlaced}
use Rattle.sg_groves.proofs.Held.{one_term}
use Rattle.sg_build.proofs.Told.{the_term}
use Rattle.sg_select.proofs.Elements.{list_wide}
use Rattle.sg_select.proofs.Leading.{child_live, held, kid_placed}
use Rattle.sg_select.specs.Paths.{elements}
use Rattle.sg_edits.specs.Edits.{behind_at, rest_behind, rest_of}
use Rattle.sg_edits.proofs.Behind.{behind_is_list, behind_more, rest_more}
use Rattle.sg_edits.proofs.Placed.{rest_held}
use Rattle.sg_edits.proofs.lists.behind.Goals as goal

pub kid-at-requires-clause-place : goal.kid-at-requires-clause-place
kid-at-requires-clause-place c = λ x found.
    let g = c.args.terms.now in
    let whole = the_term g c.args.n in
    let h = held g c.facts.ensures c.args.n c.requires.live in
    let long = c.requires.long whole h in
    let test = c.loop-step-test.true in
    let less : c.loop-step._step < elements g.spec whole = omega (arith, long, test) in
    list_wide g c.facts.ensures c.loop-step.at (rest_behind c.loop-step._step whole) (c.loop-step.invariant.holds whole h) (behind_is_list g.spec c.loop-step._step whole less) x found

pub loop-step-preserved : goal.loop-step-preserved
loop-step-preserved c =
    let g = c.args.terms.now in
    let is = c.facts.ensures in
    let at = c.loop-step.at in
    let k = c.loop-step._step in
    let child = c.kid-at.ensures.child in
    let live = child_live g is c.kid-at.result at 1 child in
    record {
      live = live;
      placed = λ root t u placed.
          subst (λ v. IsPlaced g root t v c.kid-at.result) (sym (behind_more k u)) (kid_placed g is root t (behind_at k u) at c.kid-at.result 1 (c.loop-step.invariant.placed root t u placed) child);
      holds = λ x h.
          let here : rest_behind k x ≡ the_term g at = one_term g at (rest_behind k x) (the_term g at) (c.loop-step.invariant.holds x h) (held g is at c.loop-step.invariant.live) in
          let rest : the_term g c.kid-at.result ≡ rest_behind (k + 1) x =
          sym (rest_held g is at c.kid-at.result c.loop-step.invariant.live live child) ∙ ap rest_of (sym here) ∙ sym (rest_more k x) in
          subst (Holds g c.kid-at.result) rest (held g is c.kid-at.result live);
    }

pub returns-clause-placed : goal.returns-clause-placed
returns-clause-placed c = λ root t u placed.
    let all : c.loop-step._step ≡ c.args.count = omega (arith, c.loop-step-test.false, c.loop-step.auto._step-end) in
    subst (λ k. IsPlaced c.args.terms.now root t (behind_at k u) c.loop-step.at) all (c.loop-step.invariant.placed root t u placed)

pub returns-clause-holds : goal.returns-clause-holds
returns-clause-holds c = λ x h.
    let all : c.loop-step._step ≡ c.args.count = omega (arith, c.loop-step-test.false, c.loop-step.auto._step-end) in
    subst (λ k. Holds c.args.terms.now c.loop-step.at (rest_behind k x)) all (c.loop-step.invariant.holds x h)
