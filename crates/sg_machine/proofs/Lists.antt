-- Lists that are pushed on others.
use Rattle.std.proofs.Common.{◌≡◌, ℕ, zero, suc, ◌+◌, ◌⊎◌, inl, inr, List, [], ◌∷◌, ◌++◌, length, take, drop, refl, sym, ap, ◌∙◌, arith, Some, None}
use Rattle.std.specs.Prelude.{slice_get}
use Rattle.std.proofs.lemmas.List.{append-nil}
use Rattle.std.proofs.lemmas.Option.{none-some, same_Some}
use Rattle.sg_machine.specs.Machine.{pushed}

head_or : {A : Type 0} → A → List A → A
head_or a [] = a
head_or a (x ∷ xs) = x

tail_of : {A : Type 0} → List A → List A
tail_of [] = []
tail_of (x ∷ xs) = xs

pub same-head : {A : Type 0} (x y : A) (xs ys : List A) → x ∷ xs ≡ y ∷ ys → x ≡ y
unfolding head_or
same-head x y xs ys e = ap (head_or x) e

pub same-tail : {A : Type 0} (x y : A) (xs ys : List A) → x ∷ xs ≡ y ∷ ys → xs ≡ ys
unfolding tail_of
same-tail x y xs ys e = ap tail_of e

pub same-cons : {A : Type 0} (x y : A) (xs ys : List A) → x ≡ y → xs ≡ ys → x ∷ xs ≡ y ∷ ys
same-cons x y xs ys e f = cc

pub nil-cons : {A : Type 0} (x : A) (xs : List A) → [] ≡ x ∷ xs → ⊥
nil-cons x xs e = cc

-- what stands at a place begins what is left from there on
pub drop-head : {A : Type 0} (d : ℕ) (xs : List A) (x : A) (ys : List A) → drop d xs ≡ x ∷ ys → slice_get xs d ≡ Some x
drop-head zero [] x ys h = absurd (nil-cons x ys h)
drop-head zero (y ∷ xs) x ys h = ap Some (same-head y x xs ys h)
drop-head (suc d) [] x ys h = absurd (nil-cons x ys h)
drop-head (suc d) (y ∷ xs) x ys h = drop-head d xs x ys h

pub drop-tail : {A : Type 0} (d : ℕ) (xs : List A) (x : A) (ys : List A) → drop d xs ≡ x ∷ ys → drop (suc d) xs ≡ ys
drop-tail zero [] x ys h = absurd (nil-cons x ys h)
drop-tail zero (y ∷ xs) x ys h = same-tail y x xs ys h
drop-tail (suc d) [] x ys h = absurd (nil-cons x ys h)
drop-tail (suc d) (y ∷ xs) x ys h = drop-tail d xs x ys h

pub drop-at : {A : Type 0} (xs : List A) (d : ℕ) (x : A) → slice_get xs d ≡ Some x → drop d xs ≡ x ∷ drop (suc d) xs
drop-at [] d x h = absurd (none-some x h)
drop-at (y ∷ xs) zero x h = same-cons y x xs xs (same_Some y x h) refl
drop-at (y ∷ xs) (suc d) x h = drop-at xs d x h

pub drop-past : {A : Type 0} (xs : List A) (d : ℕ) → slice_get xs d ≡ None → drop d xs ≡ []
drop-past [] zero h = refl
drop-past [] (suc d) h = refl
drop-past (y ∷ xs) zero h = absurd (none-some y (sym h))
drop-past (y ∷ xs) (suc d) h = drop-past xs d h

pub past-drop : {A : Type 0} (xs : List A) (d : ℕ) → drop d xs ≡ [] → slice_get xs d ≡ None
past-drop [] d h = refl
past-drop (y ∷ xs) zero h = absurd (nil-cons y xs (sym h))
past-drop (y ∷ xs) (suc d) h = past-drop xs d h

pub take-past : {A : Type 0} (xs : List A) (d : ℕ) → slice_get xs d ≡ None → take d xs ≡ xs
take-past [] zero h = refl
take-past [] (suc d) h = refl
take-past (y ∷ xs) zero h = absurd (none-some y (sym h))
take-past (y ∷ xs) (suc d) h = ap (λ z. y ∷ z) (take-past xs d h)

pub take-at : {A : Type 0} (xs : List A) (d : ℕ) (x : A) → slice_get xs d ≡ Some x → take (suc d) xs ≡ take d xs ++ x ∷ []
take-at [] d x h = absurd (none-some x h)
take-at (y ∷ xs) zero x h = ap (λ z. z ∷ []) (same_Some y x h)
take-at (y ∷ xs) (suc d) x h = ap (λ z. y ∷ z) (take-at xs d x h)

-- ---- pushed

pub pushed-append : {A : Type 0} (xs ys s : List A) → pushed (xs ++ ys) s ≡ pushed ys (pushed xs s)
pushed-append [] ys s = refl
pushed-append (x ∷ xs) ys s = pushed-append xs ys (x ∷ s)

pub pushed-onto : {A : Type 0} (xs s t : List A) → pushed xs (s ++ t) ≡ pushed xs s ++ t
pushed-onto [] s t = refl
pushed-onto (x ∷ xs) s t = pushed-onto xs (x ∷ s) t

pub length-pushed : {A : Type 0} (xs s : List A) → length (pushed xs s) ≡ length xs + length s
length-pushed [] s = omega arith
length-pushed (x ∷ xs) s = let i = length-pushed xs (x ∷ s) in omega (arith, i)

-- turned over twice
pub pushed-pushed : {A : Type 0} (xs ys zs : List A) → pushed (pushed xs ys) zs ≡ pushed ys (xs ++ zs)
pushed-pushed [] ys zs = refl
pushed-pushed (x ∷ xs) ys zs = pushed-pushed xs (x ∷ ys) zs

pub turned-twice : {A : Type 0} (xs : List A) → pushed (pushed xs []) [] ≡ xs
turned-twice xs = pushed-pushed xs [] [] ∙ append-nil xs

-- as many cells on equal stacks are the same
pub same-pushed : {A : Type 0} (xs ys s t : List A) → pushed xs s ≡ pushed ys t → length xs ≡ length ys → (xs ≡ ys) × (s ≡ t)
same-pushed [] [] s t h l = (refl, h)
same-pushed [] (y ∷ ys) s t h l = absurd (omega (arith, l))
same-pushed (x ∷ xs) [] s t h l = absurd (omega (arith, l))
same-pushed (x ∷ xs) (y ∷ ys) s t h l =
    let i = same-pushed xs ys (x ∷ s) (y ∷ t) h (omega (arith, l)) in
    (same-cons x y xs ys (same-head x y s t i.1) i.0, same-tail x y s t i.1)

-- a list is empty or has a last element
pub last-cases : {A : Type 0} (xs : List A) → (xs ≡ []) ⊎ ((ys : List A) × (y : A) × (xs ≡ ys ++ y ∷ []))
last-cases [] = inl refl
last-cases (x ∷ xs) = elim (last-cases xs) [
  | inl e ↦ inr ([], x, ap (λ z. x ∷ z) e)
  | inr l ↦ inr (x ∷ l.0, l.1, ap (λ z. x ∷ z) l.2)
]
