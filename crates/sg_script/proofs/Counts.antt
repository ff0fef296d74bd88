-- The number that digits write.
use Rattle.std.specs.Prelude.{◌≡◌, ℕ, zero, suc, ◌^◌, ◌<◌, ◌≤◌, true, not, ◌&&◌, ◌==◌, nat_le, List, [], ◌∷◌, length, slice_index_or, IsTrue}
use Rattle.std.specs.Char.{is_ascii_digit}
use Rattle.std.specs.List.{list_all}
use Rattle.std.proofs.Common.{arith, lit<}
use Rattle.std.proofs.Math.Nat.{pow-le-pow_right}
use Rattle.std.proofs.lemmas.Bool.{and_parts}
use Rattle.sg_kinds.proofs.Elementary.{le_is}
use Rattle.sg_script.specs.Forms.{is_count}

all_digits : (ds : List ℕ) → IsTrue (is_count ds) → list_all is_ascii_digit ds ≡ true
all_digits [] h = cc
all_digits (d ∷ ds) h = (and_parts (not (d == 48) && nat_le (length ds) 8) (list_all is_ascii_digit (d ∷ ds)) h).1

digit_in : (ds : List ℕ) (i d : ℕ) → list_all is_ascii_digit ds ≡ true → i < length ds → (48 ≤ slice_index_or ds i d) × (slice_index_or ds i d ≤ 57)
digit_in [] i d h l = absurd (omega arith)
digit_in (x ∷ ds) zero d h l =
    let p = and_parts (is_ascii_digit x) (list_all is_ascii_digit ds) h in
    let q = and_parts (nat_le 48 x) (nat_le x 57) p.0 in
    (le_is 48 x q.0, le_is x 57 q.1)
digit_in (x ∷ ds) (suc i) d h l = digit_in ds i d (and_parts (is_ascii_digit x) (list_all is_ascii_digit ds) h).1 (omega arith)

-- each byte of a count is a digit, and there are at most nine
pub digit_at : (ds : List ℕ) (i d : ℕ) → IsTrue (is_count ds) → i < length ds → slice_index_or ds i d ≤ 57
digit_at ds i d h l = (digit_in ds i d (all_digits ds h) l).1

pub at_most_nine : (ds : List ℕ) → IsTrue (is_count ds) → length ds ≤ 9
at_most_nine [] h = omega arith
at_most_nine (d ∷ ds) h =
    let p = and_parts (not (d == 48) && nat_le (length ds) 8) (list_all is_ascii_digit (d ∷ ds)) h in
    let q = and_parts (not (d == 48)) (nat_le (length ds) 8) p.0 in
    omega (arith, le_is (length ds) 8 q.1)

-- behind at most eight digits
pub tens : (i : ℕ) → i < 9 → 10 ^ i ≤ 100000000
tens i h =
    let few : i ≤ 8 = omega (arith, h) in
    let p : 10 ^ i ≤ 10 ^ 8 = pow-le-pow_right (lit< tt) few in
    p
