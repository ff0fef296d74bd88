use Rattle.std.proofs.Common.{◌≡◌, ◌+◌, ◌-◌, suc, ap, arith}
use Rattle.sg_ast.specs.ReadingExpressions.{expr_within}
use Rattle.sg_cursor.specs.Left.{left_of}
use Rattle.sg_cursor.proofs.Turns.{deeper}
use Rattle.sg_expressions.proofs.expr.+expr_within.Goals as goal

pub returns-then-depth-eq0 : goal.returns-then-depth-eq0
unfolding expr_within
returns-then-depth-eq0 t c _ = let none : c.args.depth ≡ 0 = omega arith in ap (λ n. expr_within n c.args.least (left_of c.args.tokens.now)) none

pub returns : goal.returns
unfolding expr_within
returns t c =
    let limit : c.args.depth - 1 + 1 ≡ suc (c.args.depth - 1) = omega arith in
    rw (deeper (λ n. expr_within n c.args.least (left_of c.args.tokens.now)) c.args.depth (omega arith)) (rw limit at c.expr.ensures)
