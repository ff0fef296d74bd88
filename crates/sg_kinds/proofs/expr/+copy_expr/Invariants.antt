use Rattle.std.proofs.Common.{◌≡◌, ◌≤◌, length}
use Rattle.sg_kinds.specs.ExprView.{cases_of}
use Rattle.sg_kinds.specs.declared.expr.CaseList.{size-CaseList}
use Rattle.sg_kinds.proofs.Arms.{arms_before}
use Rattle.sg_kinds.proofs.expr.+copy_expr.Given as goal

abbrev pub decreases-CaseList::copy : goal.decreases-CaseList::copy
decreases-CaseList::copy l = goal.size-CaseList::copy l

abbrev pub decreases-ExprList::copy : goal.decreases-ExprList::copy
decreases-ExprList::copy l = goal.size-ExprList::copy l

abbrev pub decreases-ExprTree::copy : goal.decreases-ExprTree::copy
decreases-ExprTree::copy l = goal.size-ExprTree::copy l

-- the arms so far and what is left are the whole, and what is left is no larger
abbrev pub invariant-CaseList::copy-loop-rest : goal.invariant-CaseList::copy-loop-rest
invariant-CaseList::copy-loop-rest l = record {
  whole : arms_before l.arms.items (cases_of l.rest) ≡ cases_of l.fn.self;
  smaller : size-CaseList l.rest ≤ size-CaseList l.fn.self;
}

abbrev pub invariant-CaseList::copy-loop-arm : goal.invariant-CaseList::copy-loop-arm
invariant-CaseList::copy-loop-arm l = arms_before l.arms.items (cases_of l.copy) ≡ cases_of l.fn.self

abbrev pub decreases-CaseList::copy-loop-arm : goal.decreases-CaseList::copy-loop-arm
decreases-CaseList::copy-loop-arm l = length l.arms.items
