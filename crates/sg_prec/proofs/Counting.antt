-- Counts by a test, and what lists have.
use Rattle.std.specs.Prelude.{◌≡◌, ℕ, zero, suc, ◌+◌, ◌<◌, ◌≤◌, Bool, true, false, cond, List, [], ◌∷◌, map, flat_map, filter, count_by, Contains}
use Rattle.std.proofs.Common.{refl, sym, ap, ◌∙◌, subst, arith, inl, inr}
use Rattle.std.proofs.lemmas.Bool.{false≢true, cases_lt}
use Rattle.std.proofs.lemmas.List.Elements.{Contains-append_left, Contains-append_right, Contains-append_cases}
use Rattle.std.proofs.lemmas.List.Sums.{sum_by-cons}
use Rattle.sg_kinds.specs.Instances.{below}

bit : Bool → ℕ
bit b = cond b 1 0

bit_le : (b c : Bool) → (b ≡ true → c ≡ true) → bit b ≤ bit c
unfolding bit
bit_le true true h = omega arith
bit_le true false h = absurd (false≢true (h refl))
bit_le false true h = omega arith
bit_le false false h = omega arith

bit_lt : (b c : Bool) → b ≡ false → c ≡ true → bit b < bit c
unfolding bit
bit_lt b c e f = rw (e, f) (omega arith)

count_cons : {X : Type 0} (p : X → Bool) (x : X) (xs : List X) → count_by p (x ∷ xs) ≡ bit (p x) + count_by p xs
unfolding bit
count_cons p x xs = sum_by-cons (λ y. cond (p y) 1 0) x xs

module _ {X : Type 0} (p q : X → Bool) (more : (x : X) → p x ≡ true → q x ≡ true) where
  pub count_le : (xs : List X) → count_by p xs ≤ count_by q xs
  count_le [] = omega arith
  count_le (x ∷ xs) =
      let rest = count_le xs in
      let here = bit_le (p x) (q x) (more x) in
      omega (arith, count_cons p x xs, count_cons q x xs, rest, here)

  -- one element passes the second test alone
  pub count_lt : (xs : List X) (k : X) → Contains xs k → p k ≡ false → q k ≡ true → count_by p xs < count_by q xs
  count_lt [] k (i, low, at) miss pass = absurd (omega (arith, low))
  count_lt (x ∷ xs) k (zero, low, at) miss pass =
      let rest = count_le xs in
      let here = bit_lt (p x) (q x) (ap p at ∙ miss) (ap q at ∙ pass) in
      omega (arith, count_cons p x xs, count_cons q x xs, rest, here)
  count_lt (x ∷ xs) k (suc i, low, at) miss pass =
      let rest = count_lt xs k (i, omega (arith, low), at) miss pass in
      let here = bit_le (p x) (q x) (more x) in
      omega (arith, count_cons p x xs, count_cons q x xs, rest, here)

pub contains_behind : {X : Type 0} (y : X) (xs : List X) (x : X) → Contains xs x → Contains (y ∷ xs) x
contains_behind y xs x (i, low, at) = (suc i, omega (arith, low), at)

pub filter_has : {X : Type 0} (p : X → Bool) (xs : List X) (x : X) → Contains xs x → p x ≡ true → Contains (filter p xs) x
filter_has p [] x (i, low, at) pass = absurd (omega (arith, low))
filter_has {X} p (y ∷ ys) x (zero, low, at) pass = by (p y) (ap p at ∙ pass)
  where
    by : (b : Bool) → b ≡ true → Contains (cond b (y ∷ filter p ys) (filter p ys)) x
    by true e = (zero, omega arith, at)
    by false e = absurd (false≢true e)
filter_has {X} p (y ∷ ys) x (suc i, low, at) pass = by (p y) (filter_has p ys x (i, omega (arith, low), at) pass)
  where
    by : (b : Bool) → Contains (filter p ys) x → Contains (cond b (y ∷ filter p ys) (filter p ys)) x
    by true has = contains_behind y (filter p ys) x has
    by false has = has

pub below_has : (n k : ℕ) → k < n → Contains (below n) k
below_has zero k low = absurd (omega (arith, low))
below_has (suc n) k low = elim (cases_lt k n) [
  | inl under ↦ Contains-append_left (below n) (n ∷ []) k (below_has n k under)
  | inr past ↦ let is : n ≡ k = omega (arith, low, past) in Contains-append_right (below n) (n ∷ []) k (zero, omega arith, is)
]

pub one_has : {X : Type 0} (y x : X) → Contains (y ∷ []) x → y ≡ x
one_has y x (zero, low, at) = at
one_has y x (suc i, low, at) = absurd (omega (arith, low))

pub below_low : (n k : ℕ) → Contains (below n) k → k < n
below_low zero k (i, low, at) = absurd (omega (arith, low))
below_low (suc n) k has = elim (Contains-append_cases (below n) (n ∷ []) k has) [
  | inl before ↦ let low = below_low n k before in omega (arith, low)
  | inr last ↦ let is = one_has n k last in omega (arith, is)
]

pub map_has : {X Y : Type 0} (f : X → Y) (xs : List X) (x : X) → Contains xs x → Contains (map f xs) (f x)
map_has f [] x (i, low, at) = absurd (omega (arith, low))
map_has f (y ∷ ys) x (zero, low, at) = (zero, omega arith, ap f at)
map_has f (y ∷ ys) x (suc i, low, at) = contains_behind (f y) (map f ys) (f x) (map_has f ys x (i, omega (arith, low), at))

pub map_back : {X Y : Type 0} (f : X → Y) (xs : List X) (y : Y) → Contains (map f xs) y → (x : X) × Contains xs x × (f x ≡ y)
map_back f [] y (i, low, at) = absurd (omega (arith, low))
map_back f (x ∷ xs) y (zero, low, at) = (x, (zero, omega arith, refl), at)
map_back f (x ∷ xs) y (suc i, low, at) = let r = map_back f xs y (i, omega (arith, low), at) in (r.0, contains_behind x xs r.0 r.1, r.2)

pub flat_has : {X Y : Type 0} (f : X → List Y) (xs : List X) (x : X) (y : Y) → Contains xs x → Contains (f x) y → Contains (flat_map f xs) y
flat_has f [] x y (i, low, at) has = absurd (omega (arith, low))
flat_has f (z ∷ zs) x y (zero, low, at) has = Contains-append_left (f z) (flat_map f zs) y (subst (λ w. Contains (f w) y) (sym at) has)
flat_has f (z ∷ zs) x y (suc i, low, at) has = Contains-append_right (f z) (flat_map f zs) y (flat_has f zs x y (i, omega (arith, low), at) has)

pub flat_back : {X Y : Type 0} (f : X → List Y) (xs : List X) (y : Y) → Contains (flat_map f xs) y → (x : X) × Contains xs x × Contains (f x) y
flat_back f [] y (i, low, at) = absurd (omega (arith, low))
flat_back f (x ∷ xs) y has = elim (Contains-append_cases (f x) (flat_map f xs) y has) [
  | inl here ↦ (x, (zero, omega arith, refl), here)
  | inr later ↦ let r = flat_back f xs y later in (r.0, contains_behind x xs r.0 r.1, r.2)
]
