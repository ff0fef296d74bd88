use Rattle.std.proofs.Common.{◌≡◌, ◌-◌, length}
use Rattle.sg_ast.specs.Readers.{more}
use Rattle.sg_ast.specs.ReadingNames.{another}
use Rattle.sg_ast.specs.ReadingExpressions.{case, sees_case, expr_within}
use Rattle.sg_expressions.specs.ExprNests.{cases_in}
use Rattle.sg_cursor.specs.Left.{left_of}
use Rattle.sg_expressions.proofs.expr.Grammar.cases.Given as goal

abbrev pub invariant-loop-turn : goal.invariant-loop-turn
invariant-loop-turn g l =
    more sees_case (another (case (expr_within l.self.depth))) (length (left_of l.fn.tokens)) (cases_in l.fn.found) (left_of l.fn.tokens)
    ≡ more sees_case (another (case (expr_within l.self.depth))) (l._turn-end - l._turn) (cases_in l.found) (left_of l.tokens)
