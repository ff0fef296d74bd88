-- Which texts are patterns.
use Rattle.std.specs.Prelude.{◌≡◌, ℕ, suc, ◌<◌, ◌≤◌, true, false, List, [], ◌∷◌, ◌++◌, length, take}
use Rattle.sg_kinds.specs.Values.{Bytes}
use Rattle.sg_kinds.specs.Lexemes.{Lexeme, Nothing, Byte, Dot, Class, Then, Either, Many, Several, Maybe}
use Rattle.sg_patterns.specs.Kinds.{bar, star, plus, query, left_parenthesis, right_parenthesis, left_bracket, right_bracket, full_stop, backslash, caret, dash, kind_of, is_special, is_plain, is_plain_inside}

-- a byte of a range
pub data IsRangeByte : ℕ → Bytes → Type 0 where
  itself : (b : ℕ) → is_plain_inside (kind_of b) ≡ true → IsRangeByte b (b ∷ [])
  escaped : (b : ℕ) → is_special (kind_of b) ≡ true → IsRangeByte b (backslash ∷ b ∷ [])

-- a byte, or two joined by a dash of which the first is not greater
pub data IsRange : ℕ × ℕ → Bytes → Type 0 where
  one : (b : ℕ) (s : Bytes) → IsRangeByte b s → IsRange (b, b) s
  from_to : (b c : ℕ) (s t all : Bytes) → IsRangeByte b s → IsRangeByte c t → b ≤ c → all ≡ s ++ dash ∷ t
      → IsRange (b, c) all

-- one range or more
pub data AreRanges : List (ℕ × ℕ) → Bytes → Type 0 where
  first : (r : ℕ × ℕ) (s : Bytes) → IsRange r s → AreRanges (r ∷ []) s
  more : (rs all_rs : List (ℕ × ℕ)) (r : ℕ × ℕ) (s t all : Bytes) → AreRanges rs s → IsRange r t
      → all_rs ≡ rs ++ r ∷ [] → all ≡ s ++ t → AreRanges all_rs all

-- the text is the pattern, in which so many parentheses may be open at a time; sequences and alternatives group to
-- the left
mutual
  pub data IsPattern : ℕ → Lexeme → Bytes → Type 0 where
    only : (n : ℕ) (p : Lexeme) (s : Bytes) → IsSequence n p s → IsPattern n p s
    or : (n : ℕ) (p q : Lexeme) (s t all : Bytes) → IsPattern n p s → IsSequence n q t → all ≡ s ++ bar ∷ t
        → IsPattern n (Either p q) all

  pub data IsSequence : ℕ → Lexeme → Bytes → Type 0 where
    empty : (n : ℕ) → IsSequence n Nothing []
    some : (n : ℕ) (p : Lexeme) (s : Bytes) → IsRun n p s → IsSequence n p s

  pub data IsRun : ℕ → Lexeme → Bytes → Type 0 where
    alone : (n : ℕ) (p : Lexeme) (s : Bytes) → IsPiece n p s → IsRun n p s
    and_then : (n : ℕ) (p q : Lexeme) (s t all : Bytes) → IsRun n p s → IsPiece n q t → all ≡ s ++ t
        → IsRun n (Then p q) all

  pub data IsPiece : ℕ → Lexeme → Bytes → Type 0 where
    once : (n : ℕ) (p : Lexeme) (s : Bytes) → IsBase n p s → IsPiece n p s
    starred : (n : ℕ) (p : Lexeme) (s all : Bytes) → IsBase n p s → all ≡ s ++ star ∷ [] → IsPiece n (Many p) all
    with_plus : (n : ℕ) (p : Lexeme) (s all : Bytes) → IsBase n p s → all ≡ s ++ plus ∷ [] → IsPiece n (Several p) all
    with_query : (n : ℕ) (p : Lexeme) (s all : Bytes) → IsBase n p s → all ≡ s ++ query ∷ [] → IsPiece n (Maybe p) all

  pub data IsBase : ℕ → Lexeme → Bytes → Type 0 where
    byte : (n b : ℕ) → is_plain (kind_of b) ≡ true → IsBase n (Byte b) (b ∷ [])
    quoted : (n b : ℕ) → is_special (kind_of b) ≡ true → IsBase n (Byte b) (backslash ∷ b ∷ [])
    dot : (n : ℕ) → IsBase n Dot (full_stop ∷ [])
    class : (n : ℕ) (rs : List (ℕ × ℕ)) (s all : Bytes) → AreRanges rs s
        → all ≡ (left_bracket ∷ s) ++ right_bracket ∷ [] → IsBase n (Class false rs) all
    none_of : (n : ℕ) (rs : List (ℕ × ℕ)) (s all : Bytes) → AreRanges rs s
        → all ≡ (left_bracket ∷ caret ∷ s) ++ right_bracket ∷ [] → IsBase n (Class true rs) all
    group : (n : ℕ) (p : Lexeme) (s all : Bytes) → IsPattern n p s
        → all ≡ (left_parenthesis ∷ s) ++ right_parenthesis ∷ [] → IsBase (suc n) p all

-- parentheses are at most so deep
abbrev pub deepest : ℕ
deepest = 64

-- the text begins some pattern
abbrev pub Begins : Bytes → Type 0
Begins s = (t : Bytes) × (p : Lexeme) × IsPattern deepest p (s ++ t)

-- the text is no pattern, and this is the length of its longest front that begins one
pub record IsNoPattern (text : Bytes) (at : ℕ) : Type 0 where
  pub no_pattern : (p : Lexeme) → IsPattern deepest p text → ⊥
  pub within : at ≤ length text
  pub begins : Begins (take at text)
  pub longest : (n : ℕ) → at < n → n ≤ length text → Begins (take n text) → ⊥
