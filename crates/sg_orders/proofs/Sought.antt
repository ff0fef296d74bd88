-- What is found among what is filtered, one number after another.
use Rattle.std.specs.Prelude.{◌≡◌, ℕ, zero, suc, ◌+◌, ◌<◌, ◌&&◌, ◌||◌, min, Bool, true, false, cond, List, [], ◌∷◌, ◌++◌, length, map, filter, find, Option, None, Some, unwrap_or, is_some}
use Rattle.std.proofs.Common.{refl, sym, ap, ◌∙◌, subst, get_or, arith, add-one}
use Rattle.std.proofs.lemmas.Bool.{or_from}
use Rattle.std.proofs.lemmas.List.{append-nil}
use Rattle.std.proofs.lemmas.List.Elements.{filter-append}
use Rattle.sg_kinds.specs.Instances.{below}
use Rattle.sg_kinds.specs.Visits.{least}
use Rattle.sg_dependencies.proofs.Below.{length-below, get_or-below, length-map-below, get_or-map-below}
use Rattle.sg_orders.proofs.Seating.{filter_has}

pub filter_next : (g : ℕ → Bool) (n : ℕ) → filter g (below (n + 1)) ≡ filter g (below n) ++ cond (g n) (n ∷ []) []
filter_next g n = rw add-one (filter-append g (below n) (n ∷ []))

pub filter_yes : (g : ℕ → Bool) (n : ℕ) → g n ≡ true → filter g (below (n + 1)) ≡ filter g (below n) ++ n ∷ []
filter_yes g n is = filter_next g n ∙ ap (λ b. filter g (below n) ++ cond b (n ∷ []) []) is

pub filter_no : (g : ℕ → Bool) (n : ℕ) → g n ≡ false → filter g (below (n + 1)) ≡ filter g (below n)
filter_no g n is = filter_next g n ∙ ap (λ b. filter g (below n) ++ cond b (n ∷ []) []) is ∙ append-nil (filter g (below n))

-- the least, one number more
pub least_push : (ns : List ℕ) (n : ℕ) → least (ns ++ n ∷ []) ≡ Some (min n (unwrap_or (least ns) n))
least_push [] n = refl
least_push (m ∷ ns) n = ap (λ o. Some (min m (unwrap_or o m))) (least_push ns n) ∙ by (least ns)
  where
    by : (o : Option ℕ) → Some (min m (min n (unwrap_or o n))) ≡ Some (min n (min m (unwrap_or o m)))
    by None = ap (λ k. Some k) (let e : min m (min n n) ≡ min n (min m m) = omega arith in e)
    by (Some k) = ap (λ j. Some j) (let e : min m (min n k) ≡ min n (min m k) = omega arith in e)

pub found_at : {X : Type 0} (p : X → Bool) (xs : List X) (i : ℕ) (d : X) → i < length xs → p (get_or xs i d) ≡ true → is_some (find p xs) ≡ true
found_at p [] i d low is = absurd (omega (arith, low))
found_at p (x ∷ xs) zero d low is = ap (λ b. is_some (cond b (Some x) (find p xs))) is
found_at p (x ∷ xs) (suc i) d low is = by (p x) (found_at p xs i d (omega (arith, low)) is)
  where
    by : (b : Bool) → is_some (find p xs) ≡ true → is_some (cond b (Some x) (find p xs)) ≡ true
    by true rest = refl
    by false rest = rest

-- what is found among what passes below n
pub sought_here : (g p : ℕ → Bool) (n a : ℕ) → a < n → g a ≡ true → p a ≡ true → is_some (find p (filter g (below n))) ≡ true
sought_here g p n a low given is =
    let here : get_or (below n) a 0 ≡ a = get_or-below n a 0 low in
    let found = filter_has g (below n) a 0 (omega (arith, low, length-below n)) (subst (λ b. g b ≡ true) (sym here) given) in
    found_at p (filter g (below n)) found.0 0 found.1 (subst (λ b. p b ≡ true) (sym (found.2 0 ∙ here)) is)

-- whether something is found, one element on
found_push : {X : Type 0} (p : X → Bool) (xs : List X) (x : X) → is_some (find p (xs ++ x ∷ [])) ≡ (is_some (find p xs) || p x)
found_push p [] x = by (p x)
  where
    by : (b : Bool) → is_some (cond b (Some x) None) ≡ (false || b)
    by true = refl
    by false = refl
found_push p (y ∷ ys) x = by (p y) (found_push p ys x)
  where
    by : (b : Bool) → is_some (find p (ys ++ x ∷ [])) ≡ (is_some (find p ys) || p x) → is_some (cond b (Some y) (find p (ys ++ x ∷ []))) ≡ (is_some (cond b (Some y) (find p ys)) || p x)
    by true rest = refl
    by false rest = rest

pub sought_more : (g p : ℕ → Bool) (n : ℕ) → is_some (find p (filter g (below n))) ≡ false → (g n && p n) ≡ false → is_some (find p (filter g (below (n + 1)))) ≡ false
sought_more g p n none here = by (g n) refl here
  where
    by : (b : Bool) → g n ≡ b → (b && p n) ≡ false → is_some (find p (filter g (below (n + 1)))) ≡ false
    by true is out = ap (λ xs. is_some (find p xs)) (filter_yes g n is) ∙ found_push p (filter g (below n)) n ∙ or_from (is_some (find p (filter g (below n)))) (p n) none out
    by false is out = ap (λ xs. is_some (find p xs)) (filter_no g n is) ∙ none

-- the first number from 1 on that passes
find_among : (p : ℕ → Bool) (xs : List ℕ) (i : ℕ) → i < length xs → ((k : ℕ) → k < i → p (get_or xs k 0) ≡ false) → p (get_or xs i 0) ≡ true → find p xs ≡ Some (get_or xs i 0)
find_among p [] i low none is = absurd (omega (arith, low))
find_among p (x ∷ xs) zero low none is = ap (λ b. cond b (Some x) (find p xs)) is
find_among p (x ∷ xs) (suc i) low none is = ap (λ b. cond b (Some x) (find p xs)) (none zero (omega arith)) ∙ find_among p xs i (omega (arith, low)) (λ k under. none (suc k) (omega (arith, under))) is

find_none : (p : ℕ → Bool) (xs : List ℕ) → ((k : ℕ) → k < length xs → p (get_or xs k 0) ≡ false) → find p xs ≡ None
find_none p [] none = refl
find_none p (x ∷ xs) none = ap (λ b. cond b (Some x) (find p xs)) (none zero (omega arith)) ∙ find_none p xs (λ k under. none (suc k) (omega (arith, under)))

pub first_is : (p : ℕ → Bool) (n i : ℕ) → i < n → ((k : ℕ) → k < i → p (suc k) ≡ false) → p (suc i) ≡ true → unwrap_or (find p (map suc (below n))) n ≡ suc i
first_is p n i low none is =
    let at : (k : ℕ) → k < n → get_or (map suc (below n)) k 0 ≡ suc k = λ k under. get_or-map-below suc n k 0 under in
    ap (λ o. unwrap_or o n) (find_among p (map suc (below n)) i (omega (arith, low, length-map-below suc n)) (λ k under. ap p (at k (omega (arith, under, low))) ∙ none k under) (ap p (at i low) ∙ is)) ∙ at i low

pub first_none : (p : ℕ → Bool) (n : ℕ) → ((k : ℕ) → k < n → p (suc k) ≡ false) → unwrap_or (find p (map suc (below n))) n ≡ n
first_none p n none = ap (λ o. unwrap_or o n) (find_none p (map suc (below n)) (λ k under. let low : k < n = omega (arith, under, length-map-below suc n) in ap p (get_or-map-below suc n k 0 low) ∙ none k low))
