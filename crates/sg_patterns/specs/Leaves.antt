-- The patterns that match one byte.
use Rattle.std.specs.Prelude.{ℕ, Bool, cond, not, ◌&&◌, nat_eq}
use Rattle.sg_kinds.specs.Values.{is_text_byte}
use Rattle.sg_kinds.specs.Lexemes as plain
use Rattle.sg_kinds.specs.Matches.{in_ranges}
use Rattle.sg_patterns.specs.declared.program.Leaf.{Leaf}
use Rattle.sg_patterns.specs.declared.program.Leaf.TheVariants.{Byte, Dot, Class}

-- the test that a leaf makes of a byte
abbrev pub test_of : Leaf → ℕ → Bool
test_of (Byte c) b = nat_eq c b
test_of Dot b = not (nat_eq b 10)
test_of (Class negated ranges) b = cond negated (not (in_ranges ranges b)) (in_ranges ranges b)

-- whether a leaf matches a byte
abbrev pub passes : Leaf → ℕ → Bool
passes l b = is_text_byte b && test_of l b

-- the pattern of a leaf
abbrev pub leaf_pattern : Leaf → plain.Lexeme
leaf_pattern (Byte c) = plain.Byte c
leaf_pattern Dot = plain.Dot
leaf_pattern (Class negated ranges) = plain.Class negated ranges
