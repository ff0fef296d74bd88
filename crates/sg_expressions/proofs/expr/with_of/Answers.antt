use Rattle.sg_ast.specs.Grouped.{depth, cases_depth}
use Rattle.sg_ast.specs.View.{expr_of, cases_of}
use Rattle.sg_expressions.proofs.Depths.{above_three}
use Rattle.sg_expressions.proofs.expr.with_of.Goals as goal

pub above-requires : goal.above-requires
above-requires c =
    rw (c.in_ok-scrutinee.ensures.ok, c.in_ok-expr.ensures.ok, c.in_ok-others.ensures.ok)
    (above_three (depth (expr_of c.args.scrutinee.expr)) (depth (expr_of c.args.first.1.expr)) (cases_depth (cases_of c.args.others.cases))
    c.args.scrutinee.depth c.args.first.1.depth c.args.others.depth c.deeper-depth.result
    c.args.scrutinee.exact c.args.first.1.exact c.args.others.exact (rw c.deeper.ensures at c.deeper-depth.ensures))
