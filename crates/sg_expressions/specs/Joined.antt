-- An operator's right operand, and the tree of both operands.
use Rattle.std.specs.Prelude.{ℕ}
use Rattle.sg_ast.specs.declared.expr.Infix.{Infix}
use Rattle.sg_ast.specs.Expressions.{Expr, Binary}
use Rattle.sg_ast.specs.Levels.{level, right_by}
use Rattle.sg_ast.specs.Readers.{Reader, ◌>>=◌}
use Rattle.sg_ast.specs.ReadingExpressions.{shallow}

unfoldable pub joined : (ℕ → Reader Expr) → ℕ → Infix → Expr → Reader Expr
joined sub limit s left = do
  right ← sub (right_by (level s))
  shallow limit (Binary s left right)
