-- Counts of what passes a test: one more, one at least, and one at most where nothing repeats.
use Rattle.std.proofs.Common.{◌≡◌, ℕ, zero, suc, ◌+◌, ◌<◌, ◌≤◌, Bool, true, false, cond, ◌||◌, List, [], ◌∷◌, ◌++◌, map, length, Option, Some, None, nat_lt, refl, sym, ap, ◌∙◌, arith}
use Rattle.std.specs.List.{count_by, list_any}
use Rattle.std.proofs.lemmas.List.Sums.{sum_by-cons, sum_by_push}
use Rattle.std.proofs.lemmas.Bool.Decides.{nat_tests}
use Rattle.sg_kinds.specs.Instances.{below}
use Rattle.sg_ast.specs.FirstFault.{or_else, first, repeat_from, first_repeat}
use Rattle.sg_ast.proofs.FirstLaws.{first-append, neither}
use Rattle.sg_equations.proofs.Below.{any_found}

-- how much a test adds to a count
abbrev weight : Bool → ℕ
weight b = cond b 1 0

count_cons : {X : Type 0} (p : X → Bool) (x : X) (xs : List X) → count_by p (x ∷ xs) ≡ weight (p x) + count_by p xs
count_cons p x xs = sum_by-cons (λ y. cond (p y) 1 0) x xs

count_push : {X : Type 0} (p : X → Bool) (x : X) (xs : List X) → count_by p (xs ++ x ∷ []) ≡ count_by p xs + weight (p x)
count_push p x xs = sum_by_push (λ y. cond (p y) 1 0) xs x

one : (b c : Bool) → b ≡ c → weight b ≡ weight c
one b c e = ap weight e

pub count_map : {X Y : Type 0} (f : X → Y) (p : Y → Bool) (xs : List X) → count_by p (map f xs) ≡ count_by (λ x. p (f x)) xs
count_map f p [] = refl
count_map f p (x ∷ xs) = count_cons p (f x) (map f xs) ∙ ap (λ n. weight (p (f x)) + n) (count_map f p xs) ∙ sym (count_cons (λ y. p (f y)) x xs)

pub count_any : {X : Type 0} (p : X → Bool) (xs : List X) → list_any p xs ≡ true → 1 ≤ count_by p xs
count_any p [] h = cc
count_any p (x ∷ xs) h = by (count_any p xs) (p x) refl h
  where
    by : (list_any p xs ≡ true → 1 ≤ count_by p xs) → (b : Bool) → p x ≡ b → (b || list_any p xs) ≡ true → 1 ≤ count_by p (x ∷ xs)
    by rest true e k =
        let c : count_by p (x ∷ xs) ≡ weight (p x) + count_by p xs = count_cons p x xs in
        let o : weight (p x) ≡ 1 = one (p x) true e in
        omega arith
    by rest false e k =
        let c : count_by p (x ∷ xs) ≡ weight (p x) + count_by p xs = count_cons p x xs in
        let r : 1 ≤ count_by p xs = rest k in
        omega arith

-- where what passes the test is all the same, and nothing repeats, one passes at most
module _ {X : Type 0} (same : X → X → Bool) (p : X → Bool) (agree : (y x : X) → p y ≡ true → p x ≡ true → same y x ≡ true) where
  none_before : (x : X) (xs : List X) → p x ≡ true → list_any (λ y. same y x) xs ≡ false → count_by p xs ≡ 0
  none_before x [] e h = refl
  none_before x (y ∷ ys) e h = by (none_before x ys e) (same y x) (p y) refl refl h
    where
      by : (list_any (λ y. same y x) ys ≡ false → count_by p ys ≡ 0) → (b c : Bool) → same y x ≡ b → p y ≡ c → (b || list_any (λ y. same y x) ys) ≡ false → count_by p (y ∷ ys) ≡ 0
      by rest true c s d k = cc
      by rest false true s d k = let a : same y x ≡ true = agree y x d e in cc
      by rest false false s d k =
          let c : count_by p (y ∷ ys) ≡ weight (p y) + count_by p ys = count_cons p y ys in
          let o : weight (p y) ≡ 0 = one (p y) false d in
          let r : count_by p ys ≡ 0 = rest k in
          omega arith

  once_behind : (before : List X) (place : ℕ) (xs : List X) → repeat_from same before place xs ≡ None → count_by p before ≤ 1 → count_by p before + count_by p xs ≤ 1
  once_behind before place [] h few = omega arith
  once_behind before place (x ∷ xs) h few = by (once_behind (before ++ x ∷ []) (suc place) xs) (list_any (λ y. same y x) before) refl h
    where
      passes : (repeat_from same (before ++ x ∷ []) (suc place) xs ≡ None → count_by p (before ++ x ∷ []) ≤ 1 → count_by p (before ++ x ∷ []) + count_by p xs ≤ 1)
          → (b : Bool) → p x ≡ b → list_any (λ y. same y x) before ≡ false → repeat_from same (before ++ x ∷ []) (suc place) xs ≡ None → count_by p before + count_by p (x ∷ xs) ≤ 1
      passes more true e new rest =
          let none : count_by p before ≡ 0 = none_before x before e new in
          let o : weight (p x) ≡ 1 = one (p x) true e in
          let pushed : count_by p (before ++ x ∷ []) ≡ count_by p before + weight (p x) = count_push p x before in
          let c : count_by p (x ∷ xs) ≡ weight (p x) + count_by p xs = count_cons p x xs in
          let r : count_by p (before ++ x ∷ []) + count_by p xs ≤ 1 = more rest (omega arith) in
          omega arith
      passes more false e new rest =
          let o : weight (p x) ≡ 0 = one (p x) false e in
          let pushed : count_by p (before ++ x ∷ []) ≡ count_by p before + weight (p x) = count_push p x before in
          let c : count_by p (x ∷ xs) ≡ weight (p x) + count_by p xs = count_cons p x xs in
          let r : count_by p (before ++ x ∷ []) + count_by p xs ≤ 1 = more rest (omega arith) in
          omega arith

      by : (repeat_from same (before ++ x ∷ []) (suc place) xs ≡ None → count_by p (before ++ x ∷ []) ≤ 1 → count_by p (before ++ x ∷ []) + count_by p xs ≤ 1)
          → (b : Bool) → list_any (λ y. same y x) before ≡ b → cond b (Some place) (repeat_from same (before ++ x ∷ []) (suc place) xs) ≡ None → count_by p before + count_by p (x ∷ xs) ≤ 1
      by more true e k = cc
      by more false e k = passes more (p x) refl e k

  pub count_once : (xs : List X) → first_repeat same xs ≡ None → count_by p xs ≤ 1
  count_once xs h = let r : count_by p [] + count_by p xs ≤ 1 = once_behind [] 0 xs h (omega arith) in omega arith

-- the first repeat stands in the list
pub repeat_within : {X : Type 0} (same : X → X → Bool) (before : List X) (place k : ℕ) (xs : List X) → repeat_from same before place xs ≡ Some k → (place ≤ k) × (k < place + length xs)
repeat_within same before place k [] h = cc
repeat_within same before place k (x ∷ xs) h = by (repeat_within same (before ++ x ∷ []) (suc place) k xs) (list_any (λ y. same y x) before) h
  where
    by : (repeat_from same (before ++ x ∷ []) (suc place) xs ≡ Some k → (suc place ≤ k) × (k < suc place + length xs)) → (b : Bool) → cond b (Some place) (repeat_from same (before ++ x ∷ []) (suc place) xs) ≡ Some k → (place ≤ k) × (k < place + length (x ∷ xs))
    by more true e = let here : place ≡ k = cc in (omega arith, omega arith)
    by more false e = let r = more e in (omega arith, omega arith)

-- tests of the numbers below one
pub none_at : {A : Type 0} (f : ℕ → Option A) (i n : ℕ) → first f (below n) ≡ None → i < n → f i ≡ None
none_at f i zero h low = absurd (omega (arith, low))
none_at f i (suc n) h low = by (none_at f i n parts.0) (nat_lt i n) refl
  where
    parts : (first f (below n) ≡ None) × (first f (n ∷ []) ≡ None)
    parts = neither (first f (below n)) (first f (n ∷ [])) (sym (first-append f (below n) (n ∷ [])) ∙ h)

    by : (i < n → f i ≡ None) → (b : Bool) → nat_lt i n ≡ b → f i ≡ None
    by before true less = before (grind (arith, nat_tests))
    by before false less =
        let same : i ≡ n = grind (arith, nat_tests) in
        ap f same ∙ (neither (f n) None parts.1).0

pub some_at : {A : Type 0} (f : ℕ → Option A) (n : ℕ) (x : A) → first f (below n) ≡ Some x → (i : ℕ) × (i < n) × (f i ≡ Some x)
some_at {A} f zero x h = cc
some_at {A} f (suc n) x h = by (some_at f n x) (first f (below n)) (f n) refl refl (sym (first-append f (below n) (n ∷ [])) ∙ h)
  where
    by : (first f (below n) ≡ Some x → (i : ℕ) × (i < n) × (f i ≡ Some x)) → (o q : Option A) → first f (below n) ≡ o → f n ≡ q → or_else o (or_else q None) ≡ Some x → (i : ℕ) × (i < suc n) × (f i ≡ Some x)
    by before (Some y) q e d k = let r = before (e ∙ k) in (r.0, omega (arith, r.1), r.2)
    by before None (Some y) e d k = (n, omega arith, d ∙ k)
    by before None None e d k = cc

pub false_at : (p : ℕ → Bool) (i n : ℕ) → list_any p (below n) ≡ false → i < n → p i ≡ false
false_at p i n h low = by (p i) refl
  where
    by : (b : Bool) → p i ≡ b → b ≡ false
    by true e = let a : list_any p (below n) ≡ true = any_found p i n e low in cc
    by false e = refl
