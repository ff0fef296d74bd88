use Rattle.std.proofs.Common.{◌≡◌, ◌-◌, length, map}
use Rattle.sg_text.specs.declared.symbols.Symbol.TheVariants as sign
use Rattle.sg_ast.specs.Readers.{is_sign, sees}
use Rattle.sg_ast.specs.ReadingNames.{another, pattern_within}
use Rattle.sg_ast.specs.View.{pattern_of}
use Rattle.sg_ast.specs.Readers.{more}
use Rattle.sg_cursor.specs.Left.{left_of}
use Rattle.sg_term_patterns.proofs.pattern.Grammar.others.Given as goal

abbrev pub invariant-loop-turn : goal.invariant-loop-turn
invariant-loop-turn g l =
    more (sees (is_sign sign.Comma)) (another (pattern_within l.self.depth)) (length (left_of l.fn.tokens)) (map pattern_of l.fn.found.items) (left_of l.fn.tokens)
    ≡ more (sees (is_sign sign.Comma)) (another (pattern_within l.self.depth)) (l._turn-end - l._turn) (map pattern_of l.found.items) (left_of l.tokens)
