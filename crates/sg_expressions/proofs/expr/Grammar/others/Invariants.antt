use Rattle.std.proofs.Common.{◌≡◌, ◌-◌, length}
use Rattle.sg_text.specs.declared.symbols.Symbol.TheVariants as sign
use Rattle.sg_ast.specs.Levels.{choice_level}
use Rattle.sg_ast.specs.Readers.{is_sign, sees, more}
use Rattle.sg_ast.specs.ReadingNames.{another}
use Rattle.sg_ast.specs.ReadingExpressions.{expr_within}
use Rattle.sg_expressions.specs.ExprNests.{nodes_of}
use Rattle.sg_cursor.specs.Left.{left_of}
use Rattle.sg_expressions.proofs.expr.Grammar.others.Given as goal

abbrev pub invariant-loop-turn : goal.invariant-loop-turn
invariant-loop-turn g l =
    more (sees (is_sign sign.Comma)) (another (expr_within l.self.depth choice_level)) (length (left_of l.fn.tokens)) (nodes_of l.fn.found) (left_of l.fn.tokens)
    ≡ more (sees (is_sign sign.Comma)) (another (expr_within l.self.depth choice_level)) (l._turn-end - l._turn) (nodes_of l.found) (left_of l.tokens)
