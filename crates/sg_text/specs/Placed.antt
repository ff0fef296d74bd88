-- What each token of a text is.
use Rattle.std.specs.Prelude.{◌≡◌, ℕ, ◌^◌, ◌<◌, ◌≤◌, List, length, Some, ⊤}
use Rattle.sg_text.specs.declared.tokens.Kind.{Kind}
use Rattle.sg_text.specs.declared.tokens.Kind.TheVariants.{Name, Number}
use Rattle.sg_text.specs.declared.tokens.Token.{Token}
use Rattle.sg_text.specs.Forms.{kind_of, value_of}
use Rattle.sg_text.specs.Lexemes.{token_bytes}
use Rattle.sg_text.specs.Lines.{line_at}

-- a name has at most 64 bytes, and a number is below 2^63
abbrev pub IsWithinLimits : Kind → List ℕ → Type 0
IsWithinLimits Name w = length w ≤ 64
IsWithinLimits (Number v) w = value_of w < 2 ^ 63
IsWithinLimits _ w = ⊤

-- the token's bytes stand in the text and have its form, and its line is that of its first byte
pub record IsTokenOf (bytes : List ℕ) (t : Token) : Type 0 where
  pub some : t.from < t.to
  pub within : t.to ≤ length bytes
  pub line : t.line ≡ line_at bytes t.from
  pub form : kind_of (token_bytes bytes t) ≡ Some t.kind
  pub limits : IsWithinLimits t.kind (token_bytes bytes t)

-- the first token ends before the second begins
abbrev pub EndsBefore : Token → Token → Type 0
EndsBefore t u = t.to ≤ u.from
