-- The tokens of a text.
use Rattle.std.specs.Prelude.{◌≡◌, ℕ, ◌+◌, ◌<◌, true, false, List, [], ◌∷◌, ◌++◌, length, map}
use Rattle.sg_kinds.specs.Values.{Bytes}
use Rattle.sg_patterns.specs.declared.lexemes.Lexemes.{Lexemes}
use Rattle.sg_patterns.specs.declared.scanning.InToken.{InToken}
use Rattle.sg_patterns.specs.LongestMatch.{Terminal, Literal, Pattern, IsLongest, HasNoMatch}
use Rattle.sg_patterns.specs.Lexemes.{is_blank}

-- the literals and then the lexemes, in the order of their numbers
abbrev pub terminals_of : Lexemes → List Terminal
terminals_of l = map Literal l.literals ++ map Pattern l.patterns

abbrev pub token_of : Lexemes → (at number len : ℕ) → InToken
token_of l at number len = record { terminal = l.first + number; from = at; to = at + len }

-- the tokens of a text up to a place: the longest match at each place, one after the other, without those that are
-- skipped
pub data Scanned (l : Lexemes) (text : Bytes) : ℕ → List InToken → Type 0 where
  start : Scanned l text 0 []
  skipped : (at number len : ℕ) (ts : List InToken) → Scanned l text at ts
      → IsLongest (terminals_of l) text at number len
      → is_blank l.blank (length l.literals) number ≡ true → Scanned l text (at + len) ts
  taken : (at number len : ℕ) (ts : List InToken) → Scanned l text at ts → IsLongest (terminals_of l) text at number len
      → is_blank l.blank (length l.literals) number ≡ false
      → Scanned l text (at + len) (ts ++ token_of l at number len ∷ [])

-- the text has tokens up to a place before its end, and nothing matches there
pub record StopsAt (l : Lexemes) (text : Bytes) (at : ℕ) : Type 0 where
  pub tokens : List InToken
  pub scanned : Scanned l text at tokens
  pub within : at < length text
  pub no_match : HasNoMatch (terminals_of l) text at
