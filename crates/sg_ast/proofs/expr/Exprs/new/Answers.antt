use Rattle.std.proofs.Common.{map}
use Rattle.sg_ast.specs.View.{expr_of, exprs_of}
use Rattle.sg_ast.proofs.ChainLemmas.{exprs_all, expr_moves}
use Rattle.sg_ast.proofs.expr.Exprs.new.Goals as goal

pub loop-last-init : goal.loop-last-init
loop-last-init c = exprs_all (map expr_of c.args.exprs.items)

pub loop-last-preserved : goal.loop-last-preserved
loop-last-preserved c =
    rw (c.in_ok-last.ensures.ok, c.in_ok-new.ensures.ok)
    (expr_moves expr_of c.pop.new.self.items c.loop-last.exprs.items c.in-Some.last (exprs_of c.loop-last.chain) c.in-Some.ensures.items c.loop-last.invariant)
