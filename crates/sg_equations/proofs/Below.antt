-- The numbers below one, and the keys of what is defined.
use Rattle.std.proofs.Common.{◌≡◌, ℕ, zero, suc, ◌+◌, ◌<◌, Bool, true, false, ◌||◌, Option, Some, None, [], ◌∷◌, ◌++◌, nat_lt, refl, sym, ap, subst, ◌∙◌, arith}
use Rattle.std.proofs.lemmas.Bool.Decides.{nat_tests}
use Rattle.std.proofs.lemmas.List.Folds.{list_any-append}
use Rattle.std.specs.List.{list_any}
use Rattle.sg_kinds.specs.Instances.{below}
use Rattle.sg_kinds.proofs.Elementary.{or_right}
use Rattle.sg_ast.specs.FirstFault.{or_else, first}
use Rattle.sg_ast.proofs.FirstLaws.{first-append}

below_more : (i : ℕ) → below (i + 1) ≡ below i ++ i ∷ []
below_more i = ap below (let e : i + 1 ≡ suc i = omega arith in e)

pub any_more : (p : ℕ → Bool) (i : ℕ) → p i ≡ false → list_any p (below i) ≡ false → list_any p (below (i + 1)) ≡ false
any_more p i here before = ap (list_any p) (below_more i) ∙ list_any-append p (below i) (i ∷ []) ∙ ap (λ b. b || list_any p (i ∷ [])) before ∙ ap (λ b. b || false) here

pub any_found : (p : ℕ → Bool) (i n : ℕ) → p i ≡ true → i < n → list_any p (below n) ≡ true
any_found p i zero here low = absurd (omega (arith, low))
any_found p i (suc n) here low = list_any-append p (below n) (n ∷ []) ∙ by (λ less. any_found p i n here less) (nat_lt i n) refl
  where
    by : (i < n → list_any p (below n) ≡ true) → (b : Bool) → nat_lt i n ≡ b → (list_any p (below n) || list_any p (n ∷ [])) ≡ true
    by before true less = ap (λ b. b || list_any p (n ∷ [])) (before (grind (arith, nat_tests)))
    by before false less =
        let same : i ≡ n = grind (arith, nat_tests) in
        ap (λ m. list_any p (below n) || (p m || false)) (sym same) ∙ ap (λ b. list_any p (below n) || (b || false)) here ∙ or_right (list_any p (below n)) true refl

-- the first of the numbers below one at which a function has a value
pub first_more : {A : Type 0} (f : ℕ → Option A) (i : ℕ) → f i ≡ None → first f (below i) ≡ None → first f (below (i + 1)) ≡ None
first_more f i here before = ap (first f) (below_more i) ∙ first-append f (below i) (i ∷ []) ∙ ap (λ o. or_else o (first f (i ∷ []))) before ∙ ap (λ o. or_else o None) here

pub first_found : {A : Type 0} (f : ℕ → Option A) (i n : ℕ) (x : A) → f i ≡ Some x → first f (below i) ≡ None → i < n → first f (below n) ≡ Some x
first_found f i zero x here before low = absurd (omega (arith, low))
first_found f i (suc n) x here before low = first-append f (below n) (n ∷ []) ∙ by (λ less. first_found f i n x here before less) (nat_lt i n) refl
  where
    by : (i < n → first f (below n) ≡ Some x) → (b : Bool) → nat_lt i n ≡ b → or_else (first f (below n)) (first f (n ∷ [])) ≡ Some x
    by found true less = ap (λ o. or_else o (first f (n ∷ []))) (found (grind (arith, nat_tests)))
    by found false less =
        let same : i ≡ n = grind (arith, nat_tests) in
        ap (λ o. or_else o (first f (n ∷ []))) (subst (λ m. first f (below m) ≡ None) same before) ∙ ap (λ m. or_else (f m) None) (sym same) ∙ ap (λ o. or_else o None) here
