-- How many elements of a list pass a test.
use Rattle.std.proofs.Common.{◌≡◌, ℕ, suc, ◌+◌, ◌≤◌, Bool, true, false, cond, ◌&&◌, List, [], ◌∷◌, ◌++◌, length, map, get_or, slice_get, Some, bytes_eq, nat_eq, refl, sym, ap, subst, ◌∙◌, arith}
use Rattle.std.specs.List.{All, AllByRecursion, count_by, sum_by, flat_map}
use Rattle.std.proofs.lemmas.Slice.Eq.{bytes_eq-Decides}
use Rattle.std.proofs.lemmas.List.Kept.{AllPairs-cons}
use Rattle.std.proofs.lemmas.List.Sums.{sum_by-cons, sum_by-append, get_or-le-sum_by}
use Rattle.sg_kinds.specs.Values.{Bytes}
use Rattle.sg_kinds.specs.Sound.{AreDistinct}
use Rattle.sg_names.specs.Names.{owned, map_from}

-- equal bytes
pub equal_bytes : (a b : Bytes) → a ≡ b → bytes_eq a b ≡ true
equal_bytes a b e = (bytes_eq-Decides a b).1 e

-- an element that passes counts 1, another 0
abbrev pub one_if : Bool → ℕ
one_if b = cond b 1 0

pub passes : (b : Bool) → b ≡ true → one_if b ≡ 1
passes true e = refl
passes false e = absurd (cc e)

pub fails : (b : Bool) → b ≡ false → one_if b ≡ 0
fails false e = refl
fails true e = absurd (cc e)

-- of a list with one more in front, of joined lists, of what elements are seen as
pub count-cons : {X : Type 0} (p : X → Bool) (x : X) (xs : List X) → count_by p (x ∷ xs) ≡ one_if (p x) + count_by p xs
count-cons p x xs = sum_by-cons (λ y. cond (p y) 1 0) x xs

pub count-append : {X : Type 0} (p : X → Bool) (xs ys : List X) → count_by p (xs ++ ys) ≡ count_by p xs + count_by p ys
count-append p xs ys = sum_by-append (λ y. cond (p y) 1 0) xs ys

pub count-front : {X : Type 0} (p : X → Bool) (xs ys : List X) (n : ℕ) → n ≤ count_by p xs → n ≤ count_by p (xs ++ ys)
count-front p xs ys n low = let e : count_by p (xs ++ ys) ≡ count_by p xs + count_by p ys = count-append p xs ys in omega (arith, low, e)

pub count-flat : {X Y : Type 0} (p : Y → Bool) (f : X → List Y) (xs : List X) → count_by p (flat_map f xs) ≡ sum_by (λ x. count_by p (f x)) xs
count-flat p f [] = refl
count-flat p f (x ∷ xs) = count-append p (f x) (flat_map f xs) ∙ ap (λ n. count_by p (f x) + n) (count-flat p f xs) ∙ sym (sum_by-cons (λ y. count_by p (f y)) x xs)

-- a weaker test passes no less often
weaker_one : (a b : Bool) (m n : ℕ) → (a ≡ true → b ≡ true) → m ≤ n → one_if a + m ≤ one_if b + n
weaker_one true true m n h l = omega arith
weaker_one true false m n h l = let e : false ≡ true = h refl in absurd (cc e)
weaker_one false true m n h l = omega arith
weaker_one false false m n h l = omega arith

pub count-le-count : {X : Type 0} (p q : X → Bool) → ((x : X) → p x ≡ true → q x ≡ true) → (xs : List X) → count_by p xs ≤ count_by q xs
count-le-count p q h [] = omega arith
count-le-count p q h (x ∷ xs) = rw (count-cons p x xs, count-cons q x xs) (weaker_one (p x) (q x) (count_by p xs) (count_by q xs) (h x) (count-le-count p q h xs))

-- two sums are the sum of both
pub sum_by-both : {X : Type 0} (f g : X → ℕ) (xs : List X) → sum_by f xs + sum_by g xs ≡ sum_by (λ x. f x + g x) xs
sum_by-both f g [] = refl
sum_by-both f g (x ∷ xs) =
    let a : sum_by f (x ∷ xs) ≡ f x + sum_by f xs = sum_by-cons f x xs in
    let b : sum_by g (x ∷ xs) ≡ g x + sum_by g xs = sum_by-cons g x xs in
    let c : sum_by (λ y. f y + g y) (x ∷ xs) ≡ (f x + g x) + sum_by (λ y. f y + g y) xs = sum_by-cons (λ y. f y + g y) x xs in
    let d : sum_by f xs + sum_by g xs ≡ sum_by (λ y. f y + g y) xs = sum_by-both f g xs in
    omega (arith, a, b, c, d)

-- names that stand once each are distinct
after_first : (x : Bytes) (xs : List Bytes) → count_by (bytes_eq x) xs ≤ 0 → All (λ y. x ≡ y → ⊥) xs
after_first x xs none k d low e =
    let counted : one_if (bytes_eq x (get_or xs k d)) ≤ count_by (bytes_eq x) xs = get_or-le-sum_by (λ y. cond (bytes_eq x y) 1 0) xs k d low in
    let one : one_if (bytes_eq x (get_or xs k d)) ≡ 1 = passes (bytes_eq x (get_or xs k d)) (equal_bytes x (get_or xs k d) e) in
    absurd (omega (arith, counted, one, none))

pub distinct_from_counts : (xs : List Bytes) → ((n : Bytes) → count_by (bytes_eq n) xs ≤ 1) → AreDistinct xs
distinct_from_counts [] once = λ i j d low inside. absurd (omega (arith, inside))
distinct_from_counts (x ∷ xs) once =
    AllPairs-cons (λ a b. a ≡ b → ⊥) x xs (after_first x xs first) (distinct_from_counts xs rest)
  where
    first : count_by (bytes_eq x) xs ≤ 0
    first =
        let all : count_by (bytes_eq x) (x ∷ xs) ≤ 1 = once x in
        let split : count_by (bytes_eq x) (x ∷ xs) ≡ one_if (bytes_eq x x) + count_by (bytes_eq x) xs = count-cons (bytes_eq x) x xs in
        let one : one_if (bytes_eq x x) ≡ 1 = passes (bytes_eq x x) (equal_bytes x x refl) in
        omega (arith, all, split, one)

    rest : (n : Bytes) → count_by (bytes_eq n) xs ≤ 1
    rest n =
        let all : count_by (bytes_eq n) (x ∷ xs) ≤ 1 = once n in
        let split : count_by (bytes_eq n) (x ∷ xs) ≡ one_if (bytes_eq n x) + count_by (bytes_eq n) xs = count-cons (bytes_eq n) x xs in
        omega (arith, all, split)

-- of what an owner has
pub count-owned : {A : Type 0} (p : A → Bool) (k : ℕ) (pairs : List (ℕ × A)) → count_by p (owned pairs k) ≡ count_by (λ x. nat_eq x.0 k && p x.1) pairs
count-owned {A} p k [] = refl
count-owned {A} p k (x ∷ pairs) = by (nat_eq x.0 k) (count-owned p k pairs) ∙ sym (count-cons (λ (y : ℕ × A). nat_eq y.0 k && p y.1) x pairs)
  where
    by : (b : Bool) → count_by p (owned pairs k) ≡ count_by (λ (y : ℕ × A). nat_eq y.0 k && p y.1) pairs → count_by p (cond b (x.1 ∷ []) [] ++ owned pairs k) ≡ one_if (b && p x.1) + count_by (λ (y : ℕ × A). nat_eq y.0 k && p y.1) pairs
    by true e = count-cons p x.1 (owned pairs k) ∙ ap (λ n. one_if (p x.1) + n) e
    by false e = omega (arith, e)

pub count-all : {A : Type 0} (xs : List A) → count_by (λ x. true) xs ≡ length xs
count-all [] = refl
count-all (x ∷ xs) = let e : count_by (λ y. true) xs ≡ length xs = count-all xs in let c : count_by (λ y. true) (x ∷ xs) ≡ 1 + count_by (λ y. true) xs = count-cons (λ y. true) x xs in omega (arith, e, c)

-- what is made of elements with their places
pub all_made : {A B : Type 0} (P : B → Type 0) (f : ℕ → A → B) (s : ℕ) (xs : List A) → ((k : ℕ) (x : A) → slice_get xs k ≡ Some x → P (f (s + k) x)) → AllByRecursion P (map_from f s xs)
all_made P f s [] h = tt
all_made {A} {B} P f s (x ∷ xs) h =
    let e : s + 0 ≡ s = omega arith in
    (subst (λ n. P (f n x)) e (h 0 x refl), all_made P f (suc s) xs (λ k y is. let n : s + suc k ≡ suc s + k = omega arith in subst (λ m. P (f m y)) n (h (suc k) y is)))

pub map-made : {A B C : Type 0} (g : B → C) (f : ℕ → A → B) (v : A → C) → ((k : ℕ) (x : A) → g (f k x) ≡ v x) → (s : ℕ) (xs : List A) → map g (map_from f s xs) ≡ map v xs
map-made g f v h s [] = refl
map-made {A} {B} {C} g f v h s (x ∷ xs) = ap (λ (c : C). c ∷ map g (map_from f (suc s) xs)) (h s x) ∙ ap (λ (l : List C). v x ∷ l) (map-made g f v h (suc s) xs)

-- all of what elements are seen as
pub all_seen : {A B : Type 0} (P : B → Type 0) (f : A → B) (xs : List A) → AllByRecursion P (map f xs) → AllByRecursion (λ x. P (f x)) xs
all_seen P f [] all = tt
all_seen P f (x ∷ xs) all = (all.0, all_seen P f xs all.1)
