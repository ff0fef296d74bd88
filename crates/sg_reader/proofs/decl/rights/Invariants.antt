use Rattle.std.proofs.Common.{◌≡◌, ◌-◌, length, map}
use Rattle.sg_text.specs.declared.symbols.Symbol.TheVariants as sign
use Rattle.sg_ast.specs.Readers.{is_sign, sees}
use Rattle.sg_ast.specs.Reading.{other, right}
use Rattle.sg_ast.specs.View.{right_of}
use Rattle.sg_ast.specs.Readers.{more}
use Rattle.sg_cursor.specs.Left.{left_of}
use Rattle.sg_reader.proofs.decl.rights.Given as goal

abbrev pub invariant-loop-turn : goal.invariant-loop-turn
invariant-loop-turn l =
    more (sees (is_sign sign.Bar)) (other right) (length (left_of l.fn.tokens)) (map right_of l.fn.found.items) (left_of l.fn.tokens)
    ≡ more (sees (is_sign sign.Bar)) (other right) (l._turn-end - l._turn) (map right_of l.found.items) (left_of l.tokens)
