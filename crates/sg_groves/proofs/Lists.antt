-- Elements of lists that are made of others, and lists in which none stands twice.
use Rattle.std.specs.Prelude.{◌≡◌, ◌≢◌, ◌⊎◌, refl, ℕ, zero, suc, ◌<◌, Bool, true, false, cond, List, [], ◌∷◌, ◌++◌, map, filter, flat_map, All, AllPairs, Contains}
use Rattle.std.proofs.Common.{sym, ap, ◌∙◌, subst, inl, inr, arith}
use Rattle.std.proofs.lemmas.List.Elements.{Contains-append_left, Contains-append_right, Contains-append_cases}
use Rattle.std.proofs.lemmas.List.Kept.{AllPairs-cons}
use Rattle.std.proofs.lemmas.Bool.{false≢true, cases_lt}
use Rattle.sg_kinds.specs.Instances.{below}

module _ {X : Type 0} where
  pub contains_first : (x : X) (xs : List X) → Contains (x ∷ xs) x
  contains_first x xs = (0, omega arith, refl)

  pub contains_later : (y : X) (xs : List X) (x : X) → Contains xs x → Contains (y ∷ xs) x
  contains_later y xs x (i, low, at) = (suc i, omega (arith, low), at)

  pub contains_either : (y : X) (xs : List X) (x : X) → Contains (y ∷ xs) x → (y ≡ x) ⊎ Contains xs x
  contains_either y xs x (zero, low, at) = inl at
  contains_either y xs x (suc i, low, at) = inr (i, omega (arith, low), at)

  pub contains_none : (x : X) → Contains [] x → ⊥
  contains_none x (i, low, at) = omega (arith, low)

  -- what passes a test
  pub filter_to : (p : X → Bool) (xs : List X) (x : X) → Contains xs x → p x ≡ true → Contains (filter p xs) x
  filter_to p [] x has pass = absurd (contains_none x has)
  filter_to p (y ∷ xs) x has pass = by (p y) refl (contains_either y xs x has) (λ rest. filter_to p xs x rest pass)
    where
      by : (b : Bool) → p y ≡ b → (y ≡ x) ⊎ Contains xs x → (Contains xs x → Contains (filter p xs) x) → Contains (cond b (y ∷ filter p xs) (filter p xs)) x
      by true test (inl same) again = subst (Contains (y ∷ filter p xs)) same (contains_first y (filter p xs))
      by true test (inr rest) again = contains_later y (filter p xs) x (again rest)
      by false test (inl same) again = absurd (false≢true (sym test ∙ ap p same ∙ pass))
      by false test (inr rest) again = again rest

  pub filter_from : (p : X → Bool) (xs : List X) (x : X) → Contains (filter p xs) x → Contains xs x × (p x ≡ true)
  filter_from p [] x has = absurd (contains_none x has)
  filter_from p (y ∷ xs) x has = by (p y) refl has (λ rest. filter_from p xs x rest)
    where
      by : (b : Bool) → p y ≡ b → Contains (cond b (y ∷ filter p xs) (filter p xs)) x → (Contains (filter p xs) x → Contains xs x × (p x ≡ true)) → Contains (y ∷ xs) x × (p x ≡ true)
      by true test here again = elim (contains_either y (filter p xs) x here) [
        | inl same ↦ (subst (Contains (y ∷ xs)) same (contains_first y xs), ap p (sym same) ∙ test)
        | inr rest ↦ let found = again rest in (contains_later y xs x found.0, found.1)
      ]
      by false test here again = let found = again here in (contains_later y xs x found.0, found.1)

  -- none stands twice
  abbrev pub AreApart : List X → Type 0
  AreApart xs = AllPairs (λ x y. x ≢ y) xs

  all_from : (P : X → Type 0) (xs : List X) → ((x : X) → Contains xs x → P x) → All P xs
  all_from P [] each i d low = absurd (omega (arith, low))
  all_from P (x ∷ xs) each zero d low = each x (contains_first x xs)
  all_from P (x ∷ xs) each (suc i) d low = all_from P xs (λ y has. each y (contains_later x xs y has)) i d (omega (arith, low))

  pub apart_none : AreApart []
  apart_none i j d less low = absurd (omega (arith, low))

  apart_rest : (x : X) (xs : List X) → AreApart (x ∷ xs) → AreApart xs
  apart_rest x xs apart i j d less low = apart (suc i) (suc j) d (omega (arith, less)) (omega (arith, low))

  apart_first : (x : X) (xs : List X) → AreApart (x ∷ xs) → Contains xs x → ⊥
  apart_first x xs apart (i, low, at) = apart zero (suc i) x (omega arith) (omega (arith, low)) (sym at)

  pub apart_cons : (x : X) (xs : List X) → (Contains xs x → ⊥) → AreApart xs → AreApart (x ∷ xs)
  apart_cons x xs out apart = AllPairs-cons (λ y z. y ≢ z) x xs (all_from (λ y. x ≢ y) xs (λ y has same. out (subst (Contains xs) (sym same) has))) apart

  pub apart_append : (xs ys : List X) → AreApart xs → AreApart ys → ((x : X) → Contains xs x → Contains ys x → ⊥) → AreApart (xs ++ ys)
  apart_append [] ys one two out = two
  apart_append (x ∷ xs) ys one two out =
      apart_cons x (xs ++ ys)
      (λ has. elim (Contains-append_cases xs ys x has) [ inl first ↦ apart_first x xs one first | inr second ↦ out x (contains_first x xs) second ])
      (apart_append xs ys (apart_rest x xs one) two (λ y first second. out y (contains_later x xs y first) second))

module _ {X A : Type 0} (f : X → A) where
  pub map_to : (xs : List X) (x : X) → Contains xs x → Contains (map f xs) (f x)
  map_to [] x has = absurd (contains_none x has)
  map_to (y ∷ xs) x has = elim (contains_either y xs x has) [
    | inl same ↦ subst (λ z. Contains (f y ∷ map f xs) (f z)) same (contains_first (f y) (map f xs))
    | inr rest ↦ contains_later (f y) (map f xs) (f x) (map_to xs x rest)
  ]

  pub map_from : (xs : List X) (y : A) → Contains (map f xs) y → (x : X) × Contains xs x × (f x ≡ y)
  map_from [] y has = absurd (contains_none y has)
  map_from (x ∷ xs) y has = elim (contains_either (f x) (map f xs) y has) [
    | inl same ↦ (x, contains_first x xs, same)
    | inr rest ↦ let found = map_from xs y rest in (found.0, contains_later x xs found.0 found.1, found.2)
  ]

  pub map_apart : ((x y : X) → f x ≡ f y → x ≡ y) → (xs : List X) → AreApart xs → AreApart (map f xs)
  map_apart one [] apart = apart_none
  map_apart one (x ∷ xs) apart =
      apart_cons (f x) (map f xs)
      (λ has. let found = map_from xs (f x) has in apart_first x xs apart (subst (Contains xs) (one found.0 x found.2) found.1))
      (map_apart one xs (apart_rest x xs apart))

module _ {X A : Type 0} (f : X → List A) where
  pub flat_to : (xs : List X) (x : X) (y : A) → Contains xs x → Contains (f x) y → Contains (flat_map f xs) y
  flat_to [] x y has inside = absurd (contains_none x has)
  flat_to (z ∷ xs) x y has inside = elim (contains_either z xs x has) [
    | inl same ↦ Contains-append_left (f z) (flat_map f xs) y (subst (λ w. Contains (f w) y) (sym same) inside)
    | inr rest ↦ Contains-append_right (f z) (flat_map f xs) y (flat_to xs x y rest inside)
  ]

  pub flat_from : (xs : List X) (y : A) → Contains (flat_map f xs) y → (x : X) × Contains xs x × Contains (f x) y
  flat_from [] y has = absurd (contains_none y has)
  flat_from (x ∷ xs) y has = elim (Contains-append_cases (f x) (flat_map f xs) y has) [
    | inl first ↦ (x, contains_first x xs, first)
    | inr rest ↦ let found = flat_from xs y rest in (found.0, contains_later x xs found.0 found.1, found.2)
  ]

  pub flat_apart : ((x : X) → AreApart (f x)) → ((x y : X) (z : A) → Contains (f x) z → Contains (f y) z → x ≡ y) → (xs : List X) → AreApart xs → AreApart (flat_map f xs)
  flat_apart each one [] apart = apart_none
  flat_apart each one (x ∷ xs) apart =
      apart_append (f x) (flat_map f xs) (each x) (flat_apart each one xs (apart_rest x xs apart))
      (λ z first rest. let found = flat_from xs z rest in apart_first x xs apart (subst (Contains xs) (one found.0 x z found.2 first) found.1))

-- the numbers below n
pub below_has : (n k : ℕ) → k < n → Contains (below n) k
below_has zero k low = absurd (omega (arith, low))
below_has (suc n) k low = elim (cases_lt k n) [
  | inl less ↦ Contains-append_left (below n) (n ∷ []) k (below_has n k less)
  | inr more ↦ let same : n ≡ k = omega (arith, low, more) in Contains-append_right (below n) (n ∷ []) k (subst (Contains (n ∷ [])) same (contains_first n []))
]

pub below_bound : (n k : ℕ) → Contains (below n) k → k < n
below_bound zero k has = absurd (contains_none k has)
below_bound (suc n) k has = elim (Contains-append_cases (below n) (n ∷ []) k has) [
  | inl first ↦ (let less = below_bound n k first in omega (arith, less))
  | inr last ↦ elim (contains_either n [] k last) [ inl same ↦ omega (arith, same) | inr none ↦ absurd (contains_none k none) ]
]

pub below_apart : (n : ℕ) → AreApart (below n)
below_apart zero = apart_none
below_apart (suc n) = apart_append (below n) (n ∷ []) (below_apart n) (apart_cons n [] (contains_none n) apart_none)
    (λ k first last. elim (contains_either n [] k last) [ inl same ↦ (let less = below_bound n k first in omega (arith, less, same)) | inr none ↦ contains_none k none ])
