-- The sizes of a window are in their bounds
use Rattle.std.proofs.Common.{◌≡◌, ◌≤◌, ◌<◌, ◌+◌, ◌*◌, ◌-◌, ℕ, List, [], ◌∷◌, Option, Some, None, Bool, true, false, ◌&&◌, nat_le, nat_lt, if◌then◌else◌, arith, refl}
use Rattle.std.proofs.lemmas.Bool.Decides.{nat_tests}
use Rattle.std.specs.Char.{is_ascii_digit}
use Rattle.sg_output.specs.Job.{number_from, size_of}

test_of : (b : Bool) (x : Option ℕ) (m : ℕ) → (if b then x else None) ≡ Some m → b ≡ true
test_of true x m e = refl
test_of false x m e = absurd (cc)

taken_of : (b : Bool) (x : Option ℕ) (m : ℕ) → (if b then x else None) ≡ Some m → x ≡ Some m
taken_of true x m e = e
taken_of false x m e = absurd (cc)

most : (n : ℕ) → nat_le n 1024 ≡ true → n ≤ 1024
most n e = grind (arith, nat_tests)

more : (b : ℕ) → nat_lt 48 b ≡ true → 48 < b
more b e = grind (arith, nat_tests)

number_bounds : (bytes : List ℕ) (n m : ℕ) → number_from n bytes ≡ Some m → (n ≤ m) × (m ≤ 1024)
number_bounds [] n m e =
    let le = most n (test_of (nat_le n 1024) (Some n) m e) in
    let same : n ≡ m = let s = taken_of (nat_le n 1024) (Some n) m e in cc in
    (omega (arith, same), omega (arith, same, le))
number_bounds (b ∷ bytes) n m e =
    let h = number_bounds bytes (n * 10 + (b - 48)) m (taken_of (is_ascii_digit b && nat_le n 1024) (number_from (n * 10 + (b - 48)) bytes) m e) in
    let least = h.0 in
    (omega (arith, least), h.1)

pub size_bounds : (word : List ℕ) (n : ℕ) → size_of word ≡ Some n → (1 ≤ n) × (n ≤ 1024)
size_bounds [] n e = absurd (cc)
size_bounds (b ∷ bytes) n e =
    let some = more b (test_of (nat_lt 48 b) (number_from 0 (b ∷ bytes)) n e) in
    let from = taken_of (nat_lt 48 b) (number_from 0 (b ∷ bytes)) n e in
    let h = number_bounds bytes (0 * 10 + (b - 48)) n (taken_of (is_ascii_digit b && nat_le 0 1024) (number_from (0 * 10 + (b - 48)) bytes) n from) in
    let least = h.0 in
    (omega (arith, some, least), h.1)
