-- The longest match from the start of a text, and a match of the whole text.
use Rattle.std.proofs.Common.{◌≡◌, ℕ, ◌+◌, ◌<◌, length, subst, arith, inl, inr}
use Rattle.std.proofs.lemmas.Bool.{cases_lt}
use Rattle.sg_kinds.specs.Values.{Bytes}
use Rattle.sg_kinds.specs.Lexemes.{Lexeme}
use Rattle.sg_kinds.specs.Matches.{MatchesFrom, Matches}
use Rattle.sg_patterns.specs.LongestMatch.{IsLength, Pattern}
use Rattle.sg_patterns.proofs.Matching.{matches-within}

pub length-matches : (p : Lexeme) (text : Bytes) (len : ℕ) → IsLength (Pattern p) text 0 len → 0 < length text → len ≡ length text → Matches p text
length-matches p text len is some same =
    subst (MatchesFrom p text 0) (let e : 0 + len ≡ length text = omega (arith, same) in e) (is.found (omega (arith, some, same)))

pub matches-length : (p : Lexeme) (text : Bytes) (len : ℕ) → IsLength (Pattern p) text 0 len → Matches p text → len ≡ length text
matches-length p text len is m =
    let most = is.most (length text) (subst (MatchesFrom p text 0) (let e : length text ≡ 0 + length text = omega arith in e) m) in
    elim (cases_lt 0 len) [
      | inr none ↦ omega (arith, none, most)
      | inl some ↦ elim (matches-within p text 0 (0 + len) (is.found some)) [ inl e ↦ absurd (omega (arith, e, some)) | inr low ↦ omega (arith, low, most) ]
    ]
