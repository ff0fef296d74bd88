use Rattle.std.proofs.Common.{◌≡◌, ◌-◌, suc, List, ap, sym, ◌∙◌, arith}
use Rattle.std.specs.Prelude.{Some, slice_get}
use Rattle.std.proofs.lemmas.Option.{same_Some}
use Rattle.sg_kinds.specs.declared.spec.Rule.{Rule}
use Rattle.sg_kinds.specs.declared.spec.Spec.{Spec}
use Rattle.sg_terms.specs.Occurrences.{node_there}
use Rattle.sg_propagate.proofs.Exits.{child_low, child_there, target_there}
use Rattle.sg_propagate.proofs.update.bearer.Goals as goal

-- the equation that was read is that of the number
pub kid-requires-clause-place : goal.kid-requires-clause-place
kid-requires-clause-place c = λ x found.
    let here = c.args.terms.now in
    let r = c.item.result.now in
    let read : slice_get here.spec.rules c.args.rule ≡ Some r =
    ap (slice_get here.spec.rules) (sym c.rule.view_is)
    ∙ ap (λ (rs : List Rule). slice_get rs c.rule.inside.number) (ap (λ (s : Spec). s.rules) (sym c.spec.ensures) ∙ sym c.as_slice.ensures)
    ∙ c.item.ensures in
    let same : c.requires.0 ≡ r = same_Some c.requires.0 r (sym c.requires.1 ∙ read) in
    let op_is = c.requires.2 ∙ ap (λ (q : Rule). Some q.op) same in
    let some = c.if-target-eq0.false in
    let there = target_there here c.facts.ensures c.args.n c.args.rule r read op_is in
    let e : r.target.at ≡ suc (r.target.at - 1) = omega (arith, some) in
    child_low here c.facts.ensures c.args.n (r.target.at - 1) there.0 (ap (node_there here.trees c.args.n) (sym e) ∙ there.1) x found

pub returns-else-target-eq0 : goal.returns-else-target-eq0
returns-else-target-eq0 c = λ q q_at.
    let here = c.args.terms.now in
    let r = c.item.result.now in
    let read : slice_get here.spec.rules c.args.rule ≡ Some r =
    ap (slice_get here.spec.rules) (sym c.rule.view_is)
    ∙ ap (λ (rs : List Rule). slice_get rs c.rule.inside.number) (ap (λ (s : Spec). s.rules) (sym c.spec.ensures) ∙ sym c.as_slice.ensures)
    ∙ c.item.ensures in
    let same : r ≡ q = same_Some r q (sym read ∙ q_at) in
    let some = c.if-target-eq0.false in
    let e : r.target.at ≡ suc (r.target.at - 1) = omega (arith, some) in
    record {
      there = ap (λ (z : Rule). node_there here.trees c.args.n z.target.at) (sym same) ∙ ap (node_there here.trees c.args.n) e ∙ child_there here c.facts.ensures c.args.n c.kid.result (r.target.at - 1) c.kid.ensures.child;
      slot_is = ap (λ (z : Rule). z.target.slot) same;
    }
