use Rattle.sg_ast.specs.Grouped.{depth}
use Rattle.sg_ast.specs.View.{expr_of}
use Rattle.sg_expressions.proofs.Depths.{above_two}
use Rattle.sg_expressions.proofs.expr.binary_of.Goals as goal

pub above-requires : goal.above-requires
above-requires c =
    rw (c.in_ok-operands.ensures.ok)
    (above_two (depth (expr_of c.args.left.expr)) (depth (expr_of c.args.right.expr)) c.args.left.depth c.args.right.depth c.deeper-depth.result
    c.args.left.exact c.args.right.exact c.deeper-depth.ensures)
