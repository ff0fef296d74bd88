-- Lemmas on sets as lists of flags.
use Rattle.std.proofs.Common.{◌≡◌, ℕ, zero, suc, ◌+◌, ◌<◌, ◌≤◌, ◌⊎◌, inl, inr, Bool, true, false, not, cond, List, [], ◌∷◌, length, refl, sym, ◌∙◌, arith, zero-add}
use Rattle.std.proofs.lemmas.List.Sums.{sum_by-cons}
use Rattle.std.proofs.lemmas.Bool.{false≢true}
use Rattle.std.proofs.lemmas.List.{ext_get_or, get_or_past}
use Rattle.sg_sets.specs.Members.{has, Has, missing_of}

pub has-past : (flags : List Bool) (a : ℕ) → length flags ≤ a → has flags a ≡ false
has-past flags a h = get_or_past flags a false h

-- what is in a set is below its width
pub has-below : (flags : List Bool) (a : ℕ) → Has flags a → a < length flags
has-below [] a h = absurd (false≢true h)
has-below (x ∷ xs) zero h = omega arith
has-below (x ∷ xs) (suc a) h = let i = has-below xs a h in omega (arith, i)

-- two sets of one width are equal where each flag is
pub same_flags : (xs ys : List Bool) → length xs ≡ length ys → ((a : ℕ) → a < length xs → has xs a ≡ has ys a) → xs ≡ ys
same_flags xs ys l h = ext_get_or false xs ys l h

-- a number is in a set or not
pub has-cases : (xs : List Bool) (a : ℕ) → Has xs a ⊎ (has xs a ≡ false)
has-cases xs a = by (has xs a) refl
  where
    by : (b : Bool) → has xs a ≡ b → (has xs a ≡ true) ⊎ (has xs a ≡ false)
    by true e = inl e
    by false e = inr e

pub not-has : (xs : List Bool) (a : ℕ) → ¬ (Has xs a) → has xs a ≡ false
not-has xs a h = elim (has-cases xs a) [ inl in' ↦ absurd (h in') | inr out ↦ out ]

missing_of-true : (xs : List Bool) → missing_of (true ∷ xs) ≡ missing_of xs
missing_of-true xs = sum_by-cons (λ b. cond (not b) 1 0) true xs ∙ zero-add (missing_of xs)

missing_of-false : (xs : List Bool) → missing_of (false ∷ xs) ≡ 1 + missing_of xs
missing_of-false xs = sum_by-cons (λ b. cond (not b) 1 0) false xs

-- a set that has all of another misses no more
pub missing_of-le : (xs ys : List Bool) → length xs ≡ length ys → ((a : ℕ) → Has xs a → Has ys a) → missing_of ys ≤ missing_of xs
missing_of-le [] [] l h = omega arith
missing_of-le [] (y ∷ ys) l h = absurd (omega (arith, l))
missing_of-le (x ∷ xs) [] l h = absurd (omega (arith, l))
missing_of-le (true ∷ xs) (true ∷ ys) l h =
    let i = missing_of-le xs ys (omega (arith, l)) (λ a. h (suc a)) in omega (arith, i, missing_of-true xs, missing_of-true ys)
missing_of-le (true ∷ xs) (false ∷ ys) l h = absurd (false≢true (h zero refl))
missing_of-le (false ∷ xs) (true ∷ ys) l h =
    let i = missing_of-le xs ys (omega (arith, l)) (λ a. h (suc a)) in omega (arith, i, missing_of-false xs, missing_of-true ys)
missing_of-le (false ∷ xs) (false ∷ ys) l h =
    let i = missing_of-le xs ys (omega (arith, l)) (λ a. h (suc a)) in omega (arith, i, missing_of-false xs, missing_of-false ys)

-- a set that has all of another and one number more misses fewer
pub missing_of-lt : (xs ys : List Bool) → length xs ≡ length ys → ((a : ℕ) → Has xs a → Has ys a) → (a : ℕ) → has xs a ≡ false → Has ys a → missing_of ys < missing_of xs
missing_of-lt [] ys l h a out in' = let i = has-below ys a in' in absurd (omega (arith, l, i))
missing_of-lt (x ∷ xs) [] l h a out in' = absurd (omega (arith, l))
missing_of-lt (true ∷ xs) (y ∷ ys) l h zero out in' = absurd (false≢true (sym out))
missing_of-lt (false ∷ xs) (false ∷ ys) l h zero out in' = absurd (false≢true in')
missing_of-lt (false ∷ xs) (true ∷ ys) l h zero out in' =
    let i = missing_of-le xs ys (omega (arith, l)) (λ a. h (suc a)) in omega (arith, i, missing_of-false xs, missing_of-true ys)
missing_of-lt (true ∷ xs) (true ∷ ys) l h (suc a) out in' =
    let i = missing_of-lt xs ys (omega (arith, l)) (λ a. h (suc a)) a out in' in omega (arith, i, missing_of-true xs, missing_of-true ys)
missing_of-lt (true ∷ xs) (false ∷ ys) l h (suc a) out in' = absurd (false≢true (h zero refl))
missing_of-lt (false ∷ xs) (true ∷ ys) l h (suc a) out in' =
    let i = missing_of-lt xs ys (omega (arith, l)) (λ a. h (suc a)) a out in' in omega (arith, i, missing_of-false xs, missing_of-true ys)
missing_of-lt (false ∷ xs) (false ∷ ys) l h (suc a) out in' =
    let i = missing_of-lt xs ys (omega (arith, l)) (λ a. h (suc a)) a out in' in omega (arith, i, missing_of-false xs, missing_of-false ys)
