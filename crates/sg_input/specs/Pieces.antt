-- The pieces of a text: its tokens as the literals and lexemes of the productions.
use Rattle.std.specs.Prelude.{ℕ, ◌-◌, ◌<◌, ◌≤◌, Bool, false, if◌then◌else◌, nat_eq, nat_lt, List, [], length, map, take, drop, slice_index_or, All}
use Rattle.std.specs.List.{position_or_len}
use Rattle.sg_kinds.specs.Values.{Bytes}
use Rattle.sg_kinds.specs.InputPieces.{InputPiece}
use Rattle.sg_kinds.specs.declared.marks.Shape.{Shape}
use Rattle.sg_kinds.specs.declared.marks.Shape.TheVariants as shape
use Rattle.sg_kinds.specs.declared.spec.Phylum.{Phylum}
use Rattle.sg_kinds.specs.declared.spec.Symbol.{Symbol}
use Rattle.sg_kinds.specs.declared.spec.Symbol.TheVariants.{Quoted, Lexical}
use Rattle.sg_kinds.specs.declared.spec.Spec.{Spec}
use Rattle.sg_patterns.specs.Lexemes.{literals_of}
use Rattle.sg_patterns.specs.declared.scanning.InToken.{InToken}
use Rattle.sg_grammar.specs.Numbered.{first_literal, first_lexeme, first_nonterminal}

-- whether the shape is that of the lexeme phylum with the pattern at this place
abbrev pub has_pattern : ℕ → Shape → Bool
has_pattern l (shape.Lexemes m) = nat_eq l m
has_pattern l s = false

-- what a terminal stands for, by its number: a literal of the productions, or a lexeme phylum
abbrev pub terminal_of : Spec → ℕ → Symbol
terminal_of spec t = if nat_lt t (first_lexeme spec)
    then Quoted (slice_index_or (literals_of spec.productions) (t - first_literal spec) [])
    else Lexical (position_or_len (λ (x : Phylum). has_pattern (t - first_lexeme spec) x.shape) spec.phyla)

-- what stands in a text from one place up to another
abbrev pub part : Bytes → ℕ → ℕ → Bytes
part text from to = take (to - from) (drop from text)

abbrev pub piece_of : Spec → Bytes → InToken → InputPiece
piece_of spec text x = record { terminal = terminal_of spec x.terminal; text = part text x.from x.to }

abbrev pub pieces_of : Spec → Bytes → List InToken → List InputPiece
pieces_of spec text tokens = map (piece_of spec text) tokens

-- each token has the number of a literal or a lexeme, and stands in the text
abbrev pub IsToken : Spec → Bytes → InToken → Type 0
IsToken spec text x = (first_literal spec ≤ x.terminal) × (x.terminal < first_nonterminal spec)
    × (x.from ≤ x.to) × (x.to ≤ length text)

abbrev pub AreTokens : Spec → Bytes → List InToken → Type 0
AreTokens spec text tokens = All (IsToken spec text) tokens
