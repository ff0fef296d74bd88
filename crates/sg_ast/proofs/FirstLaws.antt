-- Laws of first faults.
use Rattle.std.proofs.Common.{◌≡◌, ℕ, suc, Bool, true, false, List, [], ◌∷◌, ◌++◌, map, Option, Some, None, refl, sym, ap, ◌∙◌}
use Rattle.std.specs.Prelude.{cond, flat_map}
use Rattle.std.specs.List.{AllByRecursion, list_any, filter}
use Rattle.sg_ast.specs.FirstFault.{or_else, first, first_of, repeats_behind, repeats, repeat_from, first_repeat}

pub or_else_assoc : {A : Type 0} (a b c : Option A) → or_else (or_else a b) c ≡ or_else a (or_else b c)
or_else_assoc (Some a) b c = refl
or_else_assoc None b c = refl

pub or_none : {A : Type 0} (a : Option A) → or_else a None ≡ a
or_none (Some a) = refl
or_none None = refl

pub first-append : {X A : Type 0} (f : X → Option A) (xs ys : List X) → first f (xs ++ ys) ≡ or_else (first f xs) (first f ys)
first-append f [] ys = refl
first-append f (x ∷ xs) ys = ap (or_else (f x)) (first-append f xs ys) ∙ sym (or_else_assoc (f x) (first f xs) (first f ys))

pub first-flat : {X Y A : Type 0} (f : Y → Option A) (g : X → List Y) (xs : List X) → first f (flat_map g xs) ≡ first (λ x. first f (g x)) xs
first-flat f g [] = refl
first-flat f g (x ∷ xs) = first-append f (g x) (flat_map g xs) ∙ ap (or_else (first f (g x))) (first-flat f g xs)

pub first-map : {X Y A : Type 0} (f : Y → Option A) (g : X → Y) (xs : List X) → first f (map g xs) ≡ first (λ x. f (g x)) xs
first-map f g [] = refl
first-map f g (x ∷ xs) = ap (or_else (f (g x))) (first-map f g xs)

pub first-push : {X A : Type 0} (f : X → Option A) (xs : List X) (x : X) → first f (xs ++ x ∷ []) ≡ or_else (first f xs) (f x)
first-push f xs x = first-append f xs (x ∷ []) ∙ ap (or_else (first f xs)) (or_none (f x))

-- a test before the rule
pub first-filter : {X A : Type 0} (f : X → Option A) (p : X → Bool) (xs : List X) → first f (filter p xs) ≡ first (λ x. cond (p x) (f x) None) xs
first-filter f p [] = refl
first-filter f p (x ∷ xs) = by (p x) (first-filter f p xs)
  where
    by : (b : Bool) → first f (filter p xs) ≡ first (λ x. cond (p x) (f x) None) xs
        → first f (cond b (x ∷ filter p xs) (filter p xs)) ≡ or_else (cond b (f x) None) (first (λ x. cond (p x) (f x) None) xs)
    by true e = ap (or_else (f x)) e
    by false e = e

pub neither : {A : Type 0} (a b : Option A) → or_else a b ≡ None → (a ≡ None) × (b ≡ None)
neither (Some a) b e = absurd (cc)
neither None b e = (refl, e)

-- there is no fault exactly where no spot has one
pub first-none : {X A : Type 0} (f : X → Option A) (xs : List X) → first f xs ≡ None → AllByRecursion (λ x. f x ≡ None) xs
first-none f [] e = tt
first-none f (x ∷ xs) e = let n = neither (f x) (first f xs) e in (n.0, first-none f xs n.1)

pub none-first : {X A : Type 0} (f : X → Option A) (xs : List X) → AllByRecursion (λ x. f x ≡ None) xs → first f xs ≡ None
none-first f [] all = refl
none-first f (x ∷ xs) all = rw (all.0, none-first f xs all.1) refl

pub first_of-append : {A : Type 0} (os ps : List (Option A)) → first_of (os ++ ps) ≡ or_else (first_of os) (first_of ps)
first_of-append os ps = first-append (λ o. o) os ps

-- the first repeat is that of the list, and where there is none nothing repeats
repeats_none : {X : Type 0} (same : X → X → Bool) (before : List X) (place : ℕ) (xs : List X) → repeat_from same before place xs ≡ None → repeats_behind same before xs ≡ []
repeats_none same before place [] e = refl
repeats_none same before place (x ∷ xs) e = by (list_any (λ y. same y x) before) e (repeats_none same (before ++ x ∷ []) (suc place) xs)
  where
    by : (b : Bool) → cond b (Some place) (repeat_from same (before ++ x ∷ []) (suc place) xs) ≡ None
        → (repeat_from same (before ++ x ∷ []) (suc place) xs ≡ None → repeats_behind same (before ++ x ∷ []) xs ≡ [])
        → cond b (x ∷ repeats_behind same (before ++ x ∷ []) xs) (repeats_behind same (before ++ x ∷ []) xs) ≡ []
    by true e rest = absurd (cc)
    by false e rest = rest e

pub first_repeat-none : {X : Type 0} (same : X → X → Bool) (xs : List X) → first_repeat same xs ≡ None → repeats same xs ≡ []
first_repeat-none same xs e = repeats_none same [] 0 xs e
