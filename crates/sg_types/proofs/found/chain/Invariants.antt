use Rattle.std.proofs.Common.{◌≡◌, map, length}
use Rattle.sg_kinds.specs.ExprView.{cases_of}
use Rattle.sg_types.specs.ExpressionsView.{with_cases, case_of}
use Rattle.sg_types.proofs.found.chain.Given as goal

abbrev pub invariant-loop-pattern : goal.invariant-loop-pattern
invariant-loop-pattern l = with_cases (map case_of l.cases.items) (cases_of l.chain) ≡ with_cases (map case_of l.fn.cases.items) (cases_of l.fn.rest)

abbrev pub decreases-loop-pattern : goal.decreases-loop-pattern
decreases-loop-pattern l = length l.cases.items
