use Rattle.sg_ast.specs.Grouped.{depth}
use Rattle.sg_ast.specs.View.{expr_of}
use Rattle.sg_expressions.proofs.Depths.{above_two}
use Rattle.sg_expressions.proofs.expr.let_of.Goals as goal

pub above-requires : goal.above-requires
above-requires c =
    rw (c.in_ok-value.ensures.ok, c.in_ok-body.ensures.ok)
    (above_two (depth (expr_of c.args.value.expr)) (depth (expr_of c.args.body.expr)) c.args.value.depth c.args.body.depth c.deeper-depth.result
    c.args.value.exact c.args.body.exact c.deeper-depth.ensures)
