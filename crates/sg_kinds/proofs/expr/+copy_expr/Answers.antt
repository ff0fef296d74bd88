use Rattle.std.proofs.Common.{◌≤◌, ◌∙◌, ap, arith}
use Rattle.sg_kinds.specs.ExprView.{expr_of}
use Rattle.sg_kinds.specs.declared.expr.CaseList.{size-CaseList}
use Rattle.sg_kinds.proofs.Arms.{arms_next, smaller_rest}
use Rattle.sg_kinds.proofs.expr.+copy_expr.Goals as goal

pub CaseList::copy-loop-rest-preserved : goal.CaseList::copy-loop-rest-preserved
CaseList::copy-loop-rest-preserved t c =
    let smaller : size-CaseList c.deref-rest.result.now ≤ size-CaseList c.loop-rest.rest.now = smaller_rest _ _ c.in-More.pattern c.in-More.first c.in-More.next c.in-More.is c.deref-rest.ensures in
    record {
      whole = arms_next _ _ c.in-More.pattern c.in-More.first c.in-More.next c.loop-rest.arms.items _ _ _ c.in-More.is c.deref-rest.ensures c.in_ok-pattern.ensures (c.in_ok-tree.ensures ∙ ap expr_of c.deref.ensures) c.in_ok-push.ensures.items c.loop-rest.invariant.whole;
      smaller = omega (arith, smaller, c.loop-rest.invariant.smaller);
    }
