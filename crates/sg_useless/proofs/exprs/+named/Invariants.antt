use Rattle.std.proofs.Common.{◌≡◌, ◌≤◌, ◌++◌}
use Rattle.sg_kinds.specs.ExprView.{cases_of}
use Rattle.sg_kinds.specs.declared.expr.CaseList.{size-CaseList}
use Rattle.sg_useless.specs.Named.{named_in_cases}
use Rattle.sg_useless.proofs.exprs.+named.Given as goal

abbrev pub decreases-add_named : goal.decreases-add_named
decreases-add_named l = goal.size-add_named l

abbrev pub decreases-add_all : goal.decreases-add_all
decreases-add_all l = goal.size-add_all l

abbrev pub decreases-add_cases : goal.decreases-add_cases
decreases-add_cases l = goal.size-add_cases l

-- what is left gives the rest, and is no larger
abbrev pub invariant-add_cases-loop-rest : goal.invariant-add_cases-loop-rest
invariant-add_cases-loop-rest l = record {
  so_far : l.uses.items ++ named_in_cases l.ops l.own (cases_of l.rest) ≡ l.fn.uses.items ++ named_in_cases l.ops l.own (cases_of l.fn.cases);
  smaller : size-CaseList l.rest ≤ size-CaseList l.fn.cases;
}
