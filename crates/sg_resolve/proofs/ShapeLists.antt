-- Facts of all elements of lists that are joined, chosen and numbered.
use Rattle.std.proofs.Common.{◌≡◌, ℕ, zero, suc, ◌+◌, Bool, true, false, nat_eq, if◌then◌else◌, List, [], ◌∷◌, ◌++◌, map, flat_map, Some, slice_get, option_map, refl, sym, ap, subst, ◌∙◌, arith}
use Rattle.std.specs.List.{AllByRecursion}
use Rattle.sg_kinds.specs.Instances.{below}
use Rattle.sg_kinds.proofs.Elementary.{eq_is}
use Rattle.sg_names.specs.Names.{owned, map_from}

pub each_append : {X : Type 0} (P : X → Type 0) (xs ys : List X) → AllByRecursion P xs → AllByRecursion P ys → AllByRecursion P (xs ++ ys)
each_append P [] ys a b = b
each_append P (x ∷ xs) ys a b = (a.0, each_append P xs ys a.1 b)

pub each_split : {X : Type 0} (P : X → Type 0) (xs ys : List X) → AllByRecursion P (xs ++ ys) → AllByRecursion P xs × AllByRecursion P ys
each_split P [] ys a = (tt, a)
each_split P (x ∷ xs) ys a = let rest = each_split P xs ys a.1 in ((a.0, rest.0), rest.1)

pub each_flat : {X Y : Type 0} (P : Y → Type 0) (g : X → List Y) (xs : List X) → AllByRecursion (λ x. AllByRecursion P (g x)) xs → AllByRecursion P (flat_map g xs)
each_flat P g [] a = tt
each_flat P g (x ∷ xs) a = each_append P (g x) (flat_map g xs) a.0 (each_flat P g xs a.1)

pub each_unflat : {X Y : Type 0} (P : Y → Type 0) (g : X → List Y) (xs : List X) → AllByRecursion P (flat_map g xs) → AllByRecursion (λ x. AllByRecursion P (g x)) xs
each_unflat P g [] a = tt
each_unflat P g (x ∷ xs) a = let both = each_split P (g x) (flat_map g xs) a in (both.0, each_unflat P g xs both.1)

pub each_map : {X Y : Type 0} (P : Y → Type 0) (f : X → Y) (xs : List X) → AllByRecursion (λ x. P (f x)) xs → AllByRecursion P (map f xs)
each_map P f [] a = tt
each_map P f (x ∷ xs) a = (a.0, each_map P f xs a.1)

pub each_implies : {X : Type 0} (P Q : X → Type 0) → ((x : X) → P x → Q x) → (xs : List X) → AllByRecursion P xs → AllByRecursion Q xs
each_implies P Q h [] a = tt
each_implies P Q h (x ∷ xs) a = (h x a.0, each_implies P Q h xs a.1)

pub each_always : {X : Type 0} (P : X → Type 0) → ((x : X) → P x) → (xs : List X) → AllByRecursion P xs
each_always P h [] = tt
each_always P h (x ∷ xs) = (h x, each_always P h xs)

pub each_both : {X : Type 0} (P Q : X → Type 0) (xs : List X) → AllByRecursion P xs → AllByRecursion Q xs → AllByRecursion (λ x. P x × Q x) xs
each_both P Q [] a b = tt
each_both P Q (x ∷ xs) a b = ((a.0, b.0), each_both P Q xs a.1 b.1)

pub each_at : {X : Type 0} (P : X → Type 0) (xs : List X) (k : ℕ) (x : X) → AllByRecursion P xs → slice_get xs k ≡ Some x → P x
each_at P [] k x a e = absurd (cc e)
each_at P (y ∷ xs) zero x a e = let same : y ≡ x = cc e in subst P same a.0
each_at P (y ∷ xs) (suc k) x a e = each_at P xs k x a.1 e

-- what is owned by a number, from what holds of each thing and its owner
pub each_owned : {A : Type 0} (R : ℕ → A → Type 0) (k : ℕ) (pairs : List (ℕ × A)) → AllByRecursion (λ (x : ℕ × A). R x.0 x.1) pairs → AllByRecursion (R k) (owned pairs k)
each_owned R k [] a = tt
each_owned {A} R k (x ∷ pairs) a = each_append (R k) (if nat_eq x.0 k then x.1 ∷ [] else []) (owned pairs k) (by (nat_eq x.0 k) refl) (each_owned R k pairs a.1)
  where
    by : (b : Bool) → nat_eq x.0 k ≡ b → AllByRecursion (R k) (if b then x.1 ∷ [] else [])
    by true e = (subst (λ m. R m x.1) (eq_is x.0 k e) a.0, tt)
    by false e = tt

pub none_owned : {A : Type 0} (k : ℕ) (pairs : List (ℕ × A)) → AllByRecursion (λ (x : ℕ × A). nat_eq x.0 k ≡ false) pairs → owned pairs k ≡ []
none_owned k [] a = refl
none_owned {A} k (x ∷ pairs) a = ap (λ b. (if b then x.1 ∷ [] else []) ++ owned pairs k) a.0 ∙ none_owned k pairs a.1

-- lists whose elements are made with their places
pub each_from : {A B : Type 0} (P : B → Type 0) (f : ℕ → A → B) (k : ℕ) (xs : List A) → AllByRecursion (λ x. (i : ℕ) → P (f i x)) xs → AllByRecursion P (map_from f k xs)
each_from P f k [] a = tt
each_from P f k (x ∷ xs) a = (a.0 k, each_from P f (suc k) xs a.1)

from_place : {A B : Type 0} (f : ℕ → A → B) (k : ℕ) (xs : List A) (i : ℕ) → slice_get (map_from f k xs) i ≡ option_map (f (k + i)) (slice_get xs i)
from_place f k [] i = refl
from_place f k (x ∷ xs) zero = let e : k ≡ k + 0 = omega arith in ap (λ n. Some (f n x)) e
from_place f k (x ∷ xs) (suc i) = let e : suc k + i ≡ k + suc i = omega arith in from_place f (suc k) xs i ∙ ap (λ n. option_map (f n) (slice_get xs i)) e

pub from_at : {A B : Type 0} (f : ℕ → A → B) (xs : List A) (i : ℕ) → slice_get (map_from f 0 xs) i ≡ option_map (f i) (slice_get xs i)
from_at f xs i = let e : 0 + i ≡ i = omega arith in from_place f 0 xs i ∙ ap (λ n. option_map (f n) (slice_get xs i)) e

-- numbers one after another
abbrev pub from : ℕ → ℕ → List ℕ
from k zero = []
from k (suc n) = k ∷ from (suc k) n

from_push : (k n : ℕ) → from k (suc n) ≡ from k n ++ (k + n) ∷ []
from_push k zero = let e : k ≡ k + 0 = omega arith in ap (λ m. m ∷ []) e
from_push k (suc n) = let e : suc k + n ≡ k + suc n = omega arith in ap (λ l. k ∷ l) (from_push (suc k) n ∙ ap (λ m. from (suc k) n ++ m ∷ []) e)

pub below_from : (n : ℕ) → below n ≡ from 0 n
below_from zero = refl
below_from (suc n) = let e : n ≡ 0 + n = omega arith in ap (λ l. l ++ n ∷ []) (below_from n) ∙ ap (λ m. from 0 n ++ m ∷ []) e ∙ sym (from_push 0 n)
