use Rattle.std.proofs.Common.{◌≡◌, ◌-◌, length}
use Rattle.sg_text.specs.declared.symbols.Symbol.TheVariants as sign
use Rattle.sg_ast.specs.Readers.{is_sign, sees, more}
use Rattle.sg_ast.specs.ReadingNames.{another, pair}
use Rattle.sg_cursor.specs.Left.{left_of}
use Rattle.sg_expressions.proofs.remote.other_pairs.Given as goal

abbrev pub invariant-loop-turn : goal.invariant-loop-turn
invariant-loop-turn l =
    more (sees (is_sign sign.Comma)) (another pair) (length (left_of l.fn.tokens)) l.fn.found.items (left_of l.fn.tokens)
    ≡ more (sees (is_sign sign.Comma)) (another pair) (l._turn-end - l._turn) l.found.items (left_of l.tokens)
