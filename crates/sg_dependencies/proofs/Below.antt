-- Lists over the numbers below a number.
use Rattle.std.specs.Prelude.{◌≡◌, ℕ, zero, suc, ◌<◌, [], ◌∷◌, ◌++◌, length, map}
use Rattle.std.proofs.Common.{refl, sym, ap, ◌∙◌, get_or, arith, inl, inr, length-append}
use Rattle.std.proofs.lemmas.Bool.{cases_lt}
use Rattle.std.proofs.lemmas.List.{map-append, get_or_append_left, get_or_at, get_or-map, length-map}
use Rattle.sg_kinds.specs.Instances.{below}

pub length-below : (n : ℕ) → length (below n) ≡ n
length-below zero = refl
length-below (suc n) = omega (arith, length-append (below n) (n ∷ []), length-below n)

pub get_or-below : (n k d : ℕ) → k < n → get_or (below n) k d ≡ k
get_or-below zero k d low = absurd (omega (arith, low))
get_or-below (suc n) k d low = elim (cases_lt k n) [
  | inl under ↦ let inside : k < length (below n) = omega (arith, length-below n, under) in get_or_append_left (below n) (n ∷ []) d k inside ∙ get_or-below n k d under
  | inr past ↦ let is : k ≡ n = omega (arith, low, past) in let long : length (below n) ≡ k = omega (arith, length-below n, is) in get_or_at (below n) n [] d k long ∙ sym is
]

pub length-map-below : {X : Type 0} (f : ℕ → X) (n : ℕ) → length (map f (below n)) ≡ n
length-map-below f n = length-map (below n) f ∙ length-below n

pub get_or-map-below : {X : Type 0} (f : ℕ → X) (n k : ℕ) (d : X) → k < n → get_or (map f (below n)) k d ≡ f k
get_or-map-below f n k d low = let inside : k < length (below n) = omega (arith, length-below n, low) in get_or-map f (below n) k 0 d inside ∙ ap f (get_or-below n k 0 low)

pub map-below-more : {X : Type 0} (f : ℕ → X) (n : ℕ) → map f (below (suc n)) ≡ map f (below n) ++ f n ∷ []
map-below-more f n = map-append f (below n) (n ∷ [])
