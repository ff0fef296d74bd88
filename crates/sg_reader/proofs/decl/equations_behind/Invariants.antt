use Rattle.std.proofs.Common.{◌≡◌, ◌-◌, length, map}
use Rattle.sg_text.specs.declared.symbols.Symbol.TheVariants as sign
use Rattle.sg_ast.specs.Readers.{is_sign}
use Rattle.sg_ast.specs.Reading.{equation, sees_other}
use Rattle.sg_ast.specs.View.{equation_of}
use Rattle.sg_ast.specs.Readers.{more}
use Rattle.sg_cursor.specs.Left.{left_of}
use Rattle.sg_reader.proofs.decl.equations_behind.Given as goal

abbrev pub invariant-loop-turn : goal.invariant-loop-turn
invariant-loop-turn l =
    more (sees_other (is_sign sign.RightBrace)) equation (length (left_of l.fn.tokens)) (map equation_of l.fn.found.items) (left_of l.fn.tokens)
    ≡ more (sees_other (is_sign sign.RightBrace)) equation (l._turn-end - l._turn) (map equation_of l.found.items) (left_of l.tokens)
