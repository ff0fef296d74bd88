-- The longest match at a place of a text, of literals and patterns.
use Rattle.std.specs.Prelude.{◌≡◌, ℕ, ◌+◌, ◌<◌, ◌≤◌, List, length, take, drop, slice_get, Option, Some, None, MatchOption}
use Rattle.sg_kinds.specs.Values.{Bytes}
use Rattle.sg_kinds.specs.Lexemes.{Lexeme}
use Rattle.sg_kinds.specs.Matches.{MatchesFrom}

-- what a token may be: a literal by its bytes, a lexeme by its pattern
pub data Terminal : Type 0 where
  Literal : Bytes → Terminal
  Pattern : Lexeme → Terminal

-- the terminal matches what stands in the text from place i up to place j
abbrev pub TerminalFrom : Terminal → Bytes → ℕ → ℕ → Type 0
TerminalFrom (Literal s) text i j = (j ≡ i + length s) × (take (length s) (drop i text) ≡ s)
TerminalFrom (Pattern p) text i j = MatchesFrom p text i j

-- the terminal of this number matches so many bytes from a place on
abbrev pub MatchesAt : List Terminal → Bytes → ℕ → ℕ → ℕ → Type 0
MatchesAt all text at number len = MatchOption (slice_get all number) ⊥ (λ t. TerminalFrom t text at (at + len))

-- the number and the length of the longest match at a place: a match of some bytes, no other is longer, and no
-- terminal before it matches as many
pub record IsLongest (all : List Terminal) (text : Bytes) (at number len : ℕ) : Type 0 where
  pub some : 0 < len
  pub found : MatchesAt all text at number len
  pub longest : (m n : ℕ) → MatchesAt all text at m n → n ≤ len
  pub first : (m : ℕ) → MatchesAt all text at m len → number ≤ m

-- no terminal matches a byte
abbrev pub HasNoMatch : List Terminal → Bytes → ℕ → Type 0
HasNoMatch all text at = (m n : ℕ) → MatchesAt all text at m n → n ≡ 0

-- how many bytes one terminal matches at most, where it matches some
pub record IsLength (t : Terminal) (text : Bytes) (at len : ℕ) : Type 0 where
  pub found : 0 < len → TerminalFrom t text at (at + len)
  pub most : (n : ℕ) → TerminalFrom t text at (at + n) → n ≤ len

-- what the longest match at a place is, or that there is none
abbrev pub IsAnswer : List Terminal → Bytes → ℕ → Option (ℕ × ℕ) → Type 0
IsAnswer all text at found = MatchOption found (HasNoMatch all text at) (λ x. IsLongest all text at x.0 x.1)

-- the length of a match that was found, and 0 where none was
abbrev pub len_of : Option (ℕ × ℕ) → ℕ
len_of None = 0
len_of (Some x) = x.1
