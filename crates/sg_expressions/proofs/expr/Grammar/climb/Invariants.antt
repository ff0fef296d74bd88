use Rattle.std.proofs.Common.{◌≡◌, ◌+◌, ◌-◌}
use Rattle.sg_ast.specs.Levels.{atom_level}
use Rattle.sg_ast.specs.ReadingExpressions.{climb, expr_within}
use Rattle.sg_expressions.specs.ExprNests.{node_of}
use Rattle.sg_cursor.specs.Left.{left_of}
use Rattle.sg_expressions.proofs.expr.Grammar.climb.Given as goal

abbrev pub invariant-loop-turn : goal.invariant-loop-turn
invariant-loop-turn g l =
    climb (expr_within l.self.depth) (l.self.depth + 1) (l.self.depth + 1) l.least atom_level (node_of l.fn.left) (left_of l.fn.tokens)
    ≡ climb (expr_within l.self.depth) (l.self.depth + 1) (l._turn-end - l._turn) l.least l.most (node_of l.left) (left_of l.tokens)
