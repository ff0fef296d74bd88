-- Different numbers below a bound are at most as many as the bound.
use Rattle.std.specs.Prelude.{◌≡◌, ◌≢◌, ℕ, zero, suc, ◌+◌, ◌<◌, ◌≤◌, Bool, true, false, cond, nat_eq, nat_lt, List, [], ◌∷◌, length, count_by, All, AllPairs}
use Rattle.std.proofs.Common.{refl, sym, ap, ◌∙◌, get_or, arith, inl, inr}
use Rattle.std.proofs.lemmas.Bool.{cases_eq, cases_order, eq-eqb, ne_eqb, lt-ltb, le-ltb}
use Rattle.std.proofs.lemmas.List.Sums.{sum_by-cons}

-- how many numbers are below n
abbrev under : ℕ → ℕ → Bool
under n x = nat_lt x n

abbrev bit : Bool → ℕ
bit b = cond b 1 0

count_cons : (p : ℕ → Bool) (x : ℕ) (xs : List ℕ) → count_by p (x ∷ xs) ≡ bit (p x) + count_by p xs
count_cons p x xs = sum_by-cons (λ y. cond (p y) 1 0) x xs

tail_pairs : (x : ℕ) (xs : List ℕ) → AllPairs ◌≢◌ (x ∷ xs) → AllPairs ◌≢◌ xs
tail_pairs x xs apart i j d less low = apart (suc i) (suc j) d (omega (arith, less)) (omega (arith, low))

-- a number stands at most once
none_more : (n x : ℕ) (xs : List ℕ) → AllPairs ◌≢◌ (x ∷ xs) → x ≡ n → count_by (λ y. nat_eq y n) xs ≡ 0
none_more n x xs apart is = by xs (λ k d low. apart zero (suc k) d (omega arith) (omega (arith, low)))
  where
    by : (ys : List ℕ) → ((k d : ℕ) → k < length ys → x ≡ get_or ys k d → ⊥) → count_by (λ y. nat_eq y n) ys ≡ 0
    by [] other = refl
    by (y ∷ ys) other =
        let rest = by ys (λ k d low. other (suc k) d (omega (arith, low))) in
        let here : nat_eq y n ≡ false = ne_eqb y n (λ e. other zero 0 (omega arith) (is ∙ sym e)) in
        let first : bit (nat_eq y n) ≡ 0 = ap bit here in
        omega (arith, count_cons (λ z. nat_eq z n) y ys, rest, first)

once : (n : ℕ) (xs : List ℕ) → AllPairs ◌≢◌ xs → count_by (λ y. nat_eq y n) xs ≤ 1
once n [] apart = omega arith
once n (x ∷ xs) apart = elim (cases_eq x n) [
  | inl here ↦ let rest = none_more n x xs apart here in let b = bit_le (nat_eq x n) in omega (arith, count_cons (λ y. nat_eq y n) x xs, rest, b)
  | inr other ↦ let rest = once n xs (tail_pairs x xs apart) in let b : bit (nat_eq x n) ≡ 0 = ap bit (ne_eqb x n other) in omega (arith, count_cons (λ y. nat_eq y n) x xs, rest, b)
]
  where
    bit_le : (b : Bool) → bit b ≤ 1
    bit_le true = omega arith
    bit_le false = omega arith

-- those below n + 1 are those below n and those that are n
split_count : (n : ℕ) (xs : List ℕ) → count_by (under (suc n)) xs ≡ count_by (under n) xs + count_by (λ y. nat_eq y n) xs
split_count n [] = refl
split_count n (x ∷ xs) =
    let rest = split_count n xs in
    let here = bits x in
    omega (arith, count_cons (under (suc n)) x xs, count_cons (under n) x xs, count_cons (λ y. nat_eq y n) x xs, rest, here)
  where
    bits : (x : ℕ) → bit (under (suc n) x) ≡ bit (under n x) + bit (nat_eq x n)
    bits x = elim (cases_order x n) [
      | inl same ↦ omega (arith, ap bit (lt-ltb x (suc n) (omega (arith, same))), ap bit (le-ltb x n (omega (arith, same))), ap bit (eq-eqb x n same))
      | inr (inl less) ↦ omega (arith, ap bit (lt-ltb x (suc n) (omega (arith, less))), ap bit (lt-ltb x n less), ap bit (ne_eqb x n (λ e. omega (arith, e, less))))
      | inr (inr more) ↦ omega (arith, ap bit (le-ltb x (suc n) (omega (arith, more))), ap bit (le-ltb x n (omega (arith, more))), ap bit (ne_eqb x n (λ e. omega (arith, e, more))))
    ]

all_under : (n : ℕ) (xs : List ℕ) → All (λ x. x < n) xs → count_by (under n) xs ≡ length xs
all_under n [] all = refl
all_under n (x ∷ xs) all =
    let rest = all_under n xs (λ k d low. all (suc k) d (omega (arith, low))) in
    let here : bit (under n x) ≡ 1 = one (all zero 0 (omega arith)) in
    omega (arith, count_cons (under n) x xs, rest, here)
  where
    one : x < n → bit (under n x) ≡ 1
    one low = ap (λ b. cond b 1 0) (lt-ltb x n low)

none_under : (xs : List ℕ) → count_by (under 0) xs ≡ 0
none_under [] = refl
none_under (x ∷ xs) = omega (arith, count_cons (under 0) x xs, none_under xs, ap bit (le-ltb x 0 (omega arith)))

few_under : (n : ℕ) (xs : List ℕ) → AllPairs ◌≢◌ xs → count_by (under n) xs ≤ n
few_under zero xs apart = omega (arith, none_under xs)
few_under (suc n) xs apart = let rest = few_under n xs apart in let one = once n xs apart in omega (arith, split_count n xs, rest, one)

-- as many different numbers as there are below n, at most
pub distinct_few : (n : ℕ) (xs : List ℕ) → AllPairs ◌≢◌ xs → All (λ x. x < n) xs → length xs ≤ n
distinct_few n xs apart all = omega (arith, all_under n xs all, few_under n xs apart)
