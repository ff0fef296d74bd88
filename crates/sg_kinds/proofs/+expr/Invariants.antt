-- What is left of a chain is no larger than the chain.
use Rattle.std.proofs.Common.{◌≤◌}
use Rattle.sg_kinds.specs.declared.expr.CaseList.{size-CaseList}
use Rattle.sg_kinds.specs.declared.expr.ExprList.{size-ExprList}
use Rattle.sg_kinds.proofs.+expr.Given as goal

abbrev pub invariant-expr::CaseList::drop-loop-self : goal.invariant-expr::CaseList::drop-loop-self
invariant-expr::CaseList::drop-loop-self l = size-CaseList l.self ≤ size-CaseList l.fn.self

abbrev pub invariant-expr::ExprList::drop-loop-self : goal.invariant-expr::ExprList::drop-loop-self
invariant-expr::ExprList::drop-loop-self l = size-ExprList l.self ≤ size-ExprList l.fn.self
