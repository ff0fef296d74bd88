-- What a lexeme pattern matches.
use Rattle.std.specs.Prelude.{◌≡◌, ℕ, suc, Bool, false, cond, not, ◌&&◌, ◌||◌, List, [], ◌∷◌, length, nat_eq, nat_le, slice_get, MatchOption, IsTrue, ◌⊎◌}
use Rattle.sg_kinds.specs.Values.{Bytes, is_text_byte}
use Rattle.sg_kinds.specs.Lexemes.{Lexeme, Nothing, Byte, Dot, Class, Then, Either, Many, Several, Maybe}

-- whether a byte is in one of the ranges
abbrev pub in_ranges : List (ℕ × ℕ) → ℕ → Bool
in_ranges [] b = false
in_ranges (r ∷ rs) b = (nat_le r.0 b && nat_le b r.1) || in_ranges rs b

-- a step from one place of a text to the next, over a byte that passes the test
abbrev pub Passes : (ℕ → Bool) → Bytes → ℕ → ℕ → Type 0
Passes test text i j = (j ≡ suc i) × MatchOption (slice_get text i) ⊥ (λ b. IsTrue (is_text_byte b && test b))

-- some number of steps, one after another
pub data Rounds (Step : ℕ → ℕ → Type 0) : ℕ → ℕ → Type 0 where
  none : (i : ℕ) → Rounds Step i i
  more : (i m j : ℕ) → Step i m → Rounds Step m j → Rounds Step i j

-- the pattern matches what stands in the text from place i up to place j
abbrev pub MatchesFrom : Lexeme → Bytes → ℕ → ℕ → Type 0
MatchesFrom Nothing text i j = j ≡ i
MatchesFrom (Byte c) text i j = Passes (nat_eq c) text i j
MatchesFrom Dot text i j = Passes (λ b. not (nat_eq b 10)) text i j
MatchesFrom (Class negated ranges) text i j = Passes (λ b. cond negated (not (in_ranges ranges b))
    (in_ranges ranges b)) text i j
MatchesFrom (Then p q) text i j = (m : ℕ) × MatchesFrom p text i m × MatchesFrom q text m j
MatchesFrom (Either p q) text i j = MatchesFrom p text i j ⊎ MatchesFrom q text i j
MatchesFrom (Many p) text i j = Rounds (MatchesFrom p text) i j
MatchesFrom (Several p) text i j = (m : ℕ) × MatchesFrom p text i m × Rounds (MatchesFrom p text) m j
MatchesFrom (Maybe p) text i j = (j ≡ i) ⊎ MatchesFrom p text i j

-- the pattern matches the whole text
abbrev pub Matches : Lexeme → Bytes → Type 0
Matches p text = MatchesFrom p text 0 (length text)
