-- Facts of all elements of a list that is written out, one by one.
use Rattle.std.specs.Prelude.{◌≡◌, ℕ, zero, suc, ◌<◌, List, [], ◌∷◌, length, slice_index_or, All, AllPairs}
use Rattle.std.proofs.Common.{arith}

-- what holds of each element by itself
unfoldable pub Each : {A : Type 0} → (A → Type 0) → List A → Type 0
Each P [] = Unit {0}
Each P (x ∷ xs) = P x × Each P xs

pub each_of : {A : Type 0} (P : A → Type 0) (xs : List A) → Each P xs → (k : ℕ) (x : A) → k < length xs → slice_index_or xs k x ≡ x → P x
unfolding Each
each_of P [] h k x low is = absurd (omega (arith, low))
each_of P (y ∷ ys) h zero x low is = rw (← is) h.0
each_of P (y ∷ ys) h (suc k) x low is = each_of P ys h.1 k x (omega (arith, low)) is

-- facts of all elements from those of each
pub all_of : {A : Type 0} (P : A → Type 0) (xs : List A) → Each P xs → All P xs
unfolding Each
all_of P [] h k d low = absurd (omega (arith, low))
all_of P (x ∷ xs) h zero d low = h.0
all_of P (x ∷ xs) h (suc k) d low = all_of P xs h.1 k d (omega (arith, low))

unfoldable pub EachPair : {A : Type 0} → (A → A → Type 0) → List A → Type 0
EachPair R [] = Unit {0}
EachPair R (x ∷ xs) = Each (R x) xs × EachPair R xs

pub pairs_of : {A : Type 0} (R : A → A → Type 0) (xs : List A) → EachPair R xs → AllPairs R xs
unfolding EachPair
pairs_of R [] h i j d l m = absurd (omega (arith, m))
pairs_of R (x ∷ xs) h i zero d l m = absurd (omega (arith, l))
pairs_of R (x ∷ xs) h zero (suc j) d l m = all_of (R x) xs h.0 j d (omega (arith, m))
pairs_of R (x ∷ xs) h (suc i) (suc j) d l m = pairs_of R xs h.1 i j d (omega (arith, l)) (omega (arith, m))
