-- Members of lists that are made of others.
use Rattle.std.proofs.Common.{◌≡◌, ℕ, zero, suc, ◌⊎◌, inl, inr, List, [], ◌∷◌, map, flat_map, Some, slice_get, refl, ap, arith}
use Rattle.std.specs.List.{Contains}
use Rattle.std.proofs.lemmas.List.Elements.{Contains-append_left, Contains-append_right, Contains-append_cases}

pub here : {X : Type 0} (x : X) (xs : List X) → Contains (x ∷ xs) x
here x xs = (0, omega arith, refl)

pub later : {X : Type 0} (y : X) (xs : List X) (x : X) → Contains xs x → Contains (y ∷ xs) x
later y xs x c = (suc c.0, (let low = c.1 in omega (arith, low)), c.2)

none : {X : Type 0} (x : X) → Contains [] x → ⊥
none x c = let low = c.1 in omega (arith, low)

-- the first element, or one behind it
parts : {X : Type 0} (y : X) (xs : List X) (x : X) → Contains (y ∷ xs) x → (y ≡ x) ⊎ Contains xs x
parts y xs x (zero, low, is) = inl is
parts y xs x (suc i, low, is) = inr (i, omega (arith, low), is)

pub at_place : {X : Type 0} (xs : List X) (k : ℕ) (x : X) → slice_get xs k ≡ Some x → Contains xs x
at_place [] k x is = absurd (cc is)
at_place (y ∷ xs) zero x is = let e : y ≡ x = cc is in (0, omega arith, e)
at_place (y ∷ xs) (suc k) x is = later y xs x (at_place xs k x is)

pub place_of : {X : Type 0} (xs : List X) (x : X) → Contains xs x → (k : ℕ) × (slice_get xs k ≡ Some x)
place_of [] x c = absurd (none x c)
place_of (y ∷ xs) x c = by (parts y xs x c) (place_of xs x)
  where
    by : (y ≡ x) ⊎ Contains xs x → (Contains xs x → (k : ℕ) × (slice_get xs k ≡ Some x)) → (k : ℕ) × (slice_get (y ∷ xs) k ≡ Some x)
    by (inl e) rest = (0, ap (λ z. Some z) e)
    by (inr c) rest = let r = rest c in (suc r.0, r.1)

pub in_map : {X Y : Type 0} (f : X → Y) (xs : List X) (x : X) → Contains xs x → Contains (map f xs) (f x)
in_map f [] x c = absurd (none x c)
in_map f (y ∷ xs) x c = by (parts y xs x c) (in_map f xs x)
  where
    by : (y ≡ x) ⊎ Contains xs x → (Contains xs x → Contains (map f xs) (f x)) → Contains (map f (y ∷ xs)) (f x)
    by (inl e) rest = (0, omega arith, ap f e)
    by (inr c) rest = later (f y) (map f xs) (f x) (rest c)

pub from_map : {X Y : Type 0} (f : X → Y) (xs : List X) (y : Y) → Contains (map f xs) y → (x : X) × Contains xs x × (f x ≡ y)
from_map f [] y c = absurd (none y c)
from_map {X} f (x ∷ xs) y c = by (parts (f x) (map f xs) y c) (from_map f xs y)
  where
    by : (f x ≡ y) ⊎ Contains (map f xs) y → (Contains (map f xs) y → (z : X) × Contains xs z × (f z ≡ y)) → (z : X) × Contains (x ∷ xs) z × (f z ≡ y)
    by (inl e) rest = (x, here x xs, e)
    by (inr c) rest = let r = rest c in (r.0, later x xs r.0 r.1, r.2)

pub in_flat : {X Y : Type 0} (f : X → List Y) (xs : List X) (x : X) (y : Y) → Contains xs x → Contains (f x) y → Contains (flat_map f xs) y
in_flat f [] x y c d = absurd (none x c)
in_flat f (z ∷ xs) x y c d = by (parts z xs x c) (in_flat f xs x y)
  where
    by : (z ≡ x) ⊎ Contains xs x → (Contains xs x → Contains (f x) y → Contains (flat_map f xs) y) → Contains (flat_map f (z ∷ xs)) y
    by (inl e) rest = Contains-append_left (f z) (flat_map f xs) y (rw e d)
    by (inr c) rest = Contains-append_right (f z) (flat_map f xs) y (rest c d)

pub from_flat : {X Y : Type 0} (f : X → List Y) (xs : List X) (y : Y) → Contains (flat_map f xs) y → (x : X) × Contains xs x × Contains (f x) y
from_flat f [] y c = absurd (none y c)
from_flat {X} f (x ∷ xs) y c = by (Contains-append_cases (f x) (flat_map f xs) y c) (from_flat f xs y)
  where
    by : Contains (f x) y ⊎ Contains (flat_map f xs) y → (Contains (flat_map f xs) y → (z : X) × Contains xs z × Contains (f z) y) → (z : X) × Contains (x ∷ xs) z × Contains (f z) y
    by (inl d) rest = (x, here x xs, d)
    by (inr c) rest = let r = rest c in (r.0, later x xs r.0 r.1, r.2)
