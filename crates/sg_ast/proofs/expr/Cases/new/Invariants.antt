use Rattle.std.proofs.Common.{◌≡◌, map, option_map, length}
use Rattle.sg_ast.specs.Chains.{cases_chain}
use Rattle.sg_ast.specs.View.{case_of, cases_of, expr_of}
use Rattle.sg_ast.proofs.ChainLemmas.{cases_onto}
use Rattle.sg_ast.proofs.expr.Cases.new.Given as goal

abbrev pub invariant-loop-pattern : goal.invariant-loop-pattern
invariant-loop-pattern l = cases_onto (map case_of l.cases.items) (cases_of l.chain) ≡ cases_chain (map case_of l.fn.cases.items) (option_map expr_of l.fn.default)

abbrev pub decreases-loop-pattern : goal.decreases-loop-pattern
decreases-loop-pattern l = length l.cases.items
