-- A text has no more tokens than bytes.
use Rattle.std.proofs.Common.{◌≡◌, ℕ, zero, suc, ◌+◌, ◌≤◌, List, [], ◌∷◌, length, min, arith, ap}
use Rattle.std.specs.Prelude.{◌==◌, count_by, All, AllPairs}
use Rattle.std.proofs.lemmas.List.{take_min}
use Rattle.sg_text.specs.declared.tokens.Token.{Token}
use Rattle.sg_text.specs.Bytes.{newline}
use Rattle.sg_text.specs.Lines.{line_at}
use Rattle.sg_text.specs.Placed.{IsTokenOf, EndsBefore}

count_from : (bytes : List ℕ) (low : ℕ) (ts : List Token) → All (IsTokenOf bytes) ts → AllPairs EndsBefore ts → All (λ (t : Token). low ≤ t.from) ts → low ≤ length bytes → low + length ts ≤ length bytes
count_from bytes low [] each ordered from within = omega (arith, within)
count_from bytes low (t ∷ ts) each ordered from within =
    let here : IsTokenOf bytes t = each zero t (omega arith) in
    let rest : t.to + length ts ≤ length bytes =
    count_from bytes t.to ts (λ k d h. each (suc k) d (omega (arith, h))) (λ i j d less h. ordered (suc i) (suc j) d (omega (arith, less)) (omega (arith, h))) (λ k d h. ordered zero (suc k) d (omega arith) (omega (arith, h))) here.within in
    omega (arith, from zero t (omega arith), here.some, rest)

pub token_count : (bytes : List ℕ) (ts : List Token) → All (IsTokenOf bytes) ts → AllPairs EndsBefore ts → length ts ≤ length bytes
token_count bytes ts each ordered = omega (arith, count_from bytes 0 ts each ordered (λ k d h. omega arith) (omega arith))

-- past the end all lines are before
pub line_at_end : (bytes : List ℕ) (place : ℕ) → line_at bytes (min place (length bytes)) ≡ line_at bytes place
line_at_end bytes place = ap (λ front. 1 + count_by (λ b. b == newline) front) (take_min place bytes)
