use Rattle.sg_ast.specs.Grouped.{depth}
use Rattle.sg_ast.specs.View.{expr_of}
use Rattle.sg_expressions.proofs.Depths.{above_three}
use Rattle.sg_expressions.proofs.expr.choice_of.Goals as goal

pub above-requires : goal.above-requires
above-requires c =
    rw (c.in_ok-condition.ensures.ok, c.in_ok-yes.ensures.ok, c.in_ok-no.ensures.ok)
    (above_three (depth (expr_of c.args.condition.expr)) (depth (expr_of c.args.yes.expr)) (depth (expr_of c.args.no.expr))
    c.args.condition.depth c.args.yes.depth c.args.no.depth c.deeper-depth.result
    c.args.condition.exact c.args.yes.exact c.args.no.exact (rw c.deeper.ensures at c.deeper-depth.ensures))
