-- Facts of each element of lists, and places in lists.
use Rattle.std.proofs.Common.{◌≡◌, ℕ, zero, suc, ◌+◌, Bool, true, false, cond, ◌||◌, List, [], ◌∷◌, ◌++◌, map, flat_map, Some, slice_get, refl, ap, subst, ◌∙◌, arith}
use Rattle.std.specs.Prelude.{option_map, find, count_by}
use Rattle.std.specs.List.{AllByRecursion as Each, list_any}
use Rattle.std.proofs.lemmas.List.Sums.{sum_by-cons}
use Rattle.sg_names.specs.Names.{map_from}

-- facts of each element
pub each_append : {A : Type 0} (P : A → Type 0) (xs ys : List A) → Each P xs → Each P ys → Each P (xs ++ ys)
each_append P [] ys h k = k
each_append P (x ∷ xs) ys h k = (h.0, each_append P xs ys h.1 k)

pub each_parts : {A : Type 0} (P : A → Type 0) (xs ys : List A) → Each P (xs ++ ys) → Each P xs × Each P ys
each_parts P [] ys h = (tt, h)
each_parts P (x ∷ xs) ys h = let r = each_parts P xs ys h.1 in ((h.0, r.0), r.1)

pub each_map : {A B : Type 0} (P : B → Type 0) (Q : A → Type 0) (f : A → B) (xs : List A) → ((x : A) → Q x → P (f x)) → Each Q xs → Each P (map f xs)
each_map P Q f [] step h = tt
each_map P Q f (x ∷ xs) step h = (step x h.0, each_map P Q f xs step h.1)

pub each_flat : {A B : Type 0} (P : B → Type 0) (Q : A → Type 0) (f : A → List B) (xs : List A) → ((x : A) → Q x → Each P (f x)) → Each Q xs → Each P (flat_map f xs)
each_flat P Q f [] step h = tt
each_flat P Q f (x ∷ xs) step h = each_append P (f x) (flat_map f xs) (step x h.0) (each_flat P Q f xs step h.1)

pub each_weaker : {A : Type 0} (P Q : A → Type 0) (xs : List A) → ((x : A) → P x → Q x) → Each P xs → Each Q xs
each_weaker P Q [] step h = tt
each_weaker P Q (x ∷ xs) step h = (step x h.0, each_weaker P Q xs step h.1)

pub each_both : {A : Type 0} (P Q : A → Type 0) (xs : List A) → Each P xs → Each Q xs → Each (λ x. P x × Q x) xs
each_both P Q [] h k = tt
each_both P Q (x ∷ xs) h k = ((h.0, k.0), each_both P Q xs h.1 k.1)

pub each_at : {A : Type 0} (P : A → Type 0) (xs : List A) (k : ℕ) (x : A) → Each P xs → slice_get xs k ≡ Some x → P x
each_at P [] k x h e = absurd (cc e)
each_at P (y ∷ ys) zero x h e = let same : y ≡ x = cc e in subst P same h.0
each_at P (y ∷ ys) (suc k) x h e = each_at P ys k x h.1 e

pub count-cons : {A : Type 0} (p : A → Bool) (x : A) (xs : List A) → count_by p (x ∷ xs) ≡ cond (p x) 1 0 + count_by p xs
count-cons p x xs = sum_by-cons (λ y. cond (p y) 1 0) x xs

-- what some element passes
pub any_left : {A : Type 0} (p : A → Bool) (xs ys : List A) → list_any p xs ≡ true → list_any p (xs ++ ys) ≡ true
any_left p [] ys h = absurd (cc h)
any_left p (x ∷ xs) ys h = by (p x) h (any_left p xs ys)
  where
    by : (b : Bool) → (b || list_any p xs) ≡ true → (list_any p xs ≡ true → list_any p (xs ++ ys) ≡ true) → (b || list_any p (xs ++ ys)) ≡ true
    by true e rest = refl
    by false e rest = rest e

pub any_right : {A : Type 0} (p : A → Bool) (xs ys : List A) → list_any p ys ≡ true → list_any p (xs ++ ys) ≡ true
any_right p [] ys h = h
any_right p (x ∷ xs) ys h = by (p x) (any_right p xs ys h)
  where
    by : (b : Bool) → list_any p (xs ++ ys) ≡ true → (b || list_any p (xs ++ ys)) ≡ true
    by true rest = refl
    by false rest = rest

-- lists whose elements are made with their places
pub each_from_places : {A B : Type 0} (P : B → Type 0) (Q : A → Type 0) (f : ℕ → A → B) (k : ℕ) (xs : List A) → ((j : ℕ) (x : A) → Q x → P (f j x)) → Each Q xs → Each P (map_from f k xs)
each_from_places P Q f k [] step h = tt
each_from_places P Q f k (x ∷ xs) step h = (step k x h.0, each_from_places P Q f (suc k) xs step h.1)

pub slice_get-map_from : {A B : Type 0} (f : ℕ → A → B) (s : ℕ) (xs : List A) (k : ℕ) → slice_get (map_from f s xs) k ≡ option_map (f (s + k)) (slice_get xs k)
slice_get-map_from f s [] k = refl
slice_get-map_from f s (x ∷ xs) zero = let e : s ≡ s + 0 = omega arith in ap (λ m. Some (f m x)) e
slice_get-map_from f s (x ∷ xs) (suc k) = let e : suc s + k ≡ s + suc k = omega arith in slice_get-map_from f (suc s) xs k ∙ ap (λ m. option_map (f m) (slice_get xs k)) e

-- the first that passes
pub find_there : {A : Type 0} (P : A → Type 0) (test : A → Bool) (xs : List A) → Each P xs → list_any test xs ≡ true → (x : A) × (find test xs ≡ Some x) × (test x ≡ true) × P x
find_there P test [] all h = absurd (cc h)
find_there {A} P test (x ∷ xs) all h = by (test x) refl h (find_there P test xs all.1)
  where
    by : (b : Bool) → test x ≡ b → (b || list_any test xs) ≡ true → (list_any test xs ≡ true → (y : A) × (find test xs ≡ Some y) × (test y ≡ true) × P y) → (y : A) × (cond b (Some x) (find test xs) ≡ Some y) × (test y ≡ true) × P y
    by true e g rest = (x, refl, e, all.0)
    by false e g rest = rest g
