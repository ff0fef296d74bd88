use Rattle.std.proofs.Common.{◌≡◌, map, length}
use Rattle.sg_ast.specs.Chains.{exprs_chain}
use Rattle.sg_ast.specs.View.{expr_of, exprs_of}
use Rattle.sg_ast.proofs.ChainLemmas.{exprs_onto}
use Rattle.sg_ast.proofs.expr.Exprs.new.Given as goal

abbrev pub invariant-loop-last : goal.invariant-loop-last
invariant-loop-last l = exprs_onto (map expr_of l.exprs.items) (exprs_of l.chain) ≡ exprs_chain (map expr_of l.fn.exprs.items)

abbrev pub decreases-loop-last : goal.decreases-loop-last
decreases-loop-last l = length l.exprs.items
