-- Lemmas on the places of kernels.
use Rattle.std.proofs.Common.{◌≡◌, ℕ, zero, suc, ◌+◌, ◌<◌, ◌||◌, ◌&&◌, inl, inr, Bool, true, false, cond, not, List, [], ◌∷◌, ◌++◌, length, get_or, map, refl, sym, ap, ◌∙◌, subst, arith, Option, Some, None, Decides, eqb}
use Rattle.std.specs.Prelude.{Contains, IfSome, IfNone, position, nat_lt, slice_get}
use Rattle.std.proofs.lemmas.Option.{none-some, same_Some}
use Rattle.std.specs.List.{position_or_len, list_any}
use Rattle.std.specs.Cmp.Lexicographic.{pointwise}
use Rattle.std.proofs.lemmas.Bool.{false≢true, ltb-false, or_cases, and_parts, eqb-true, eq-eqb, and_from, false_from_ne_true}
use Rattle.std.proofs.lemmas.List.{length-map}
use Rattle.std.proofs.lemmas.List.Quantifiers.{position-Some}
use Rattle.std.proofs.lemmas.List.Sums.{fails_before_first}
use Rattle.std.proofs.lemmas.Slice.Eq.{slice_eq-Decides}
use Rattle.sg_lalr.specs.Items.{Item, item}
use Rattle.sg_lalr.specs.Automaton.{row_at}
use Rattle.sg_lalr.proofs.RisingLemmas.{Contains-front, Contains-behind}

pub item-decides : (i j : Item) → Decides (eqb i.production j.production && eqb i.dot j.dot) (i ≡ j)
item-decides i j = (
  λ e. let p = and_parts (eqb i.production j.production) (eqb i.dot j.dot) e in (λ k. item (eqb-true i.production j.production p.0 k) (eqb-true i.dot j.dot p.1 k)),
  λ e. and_from (eqb i.production j.production) (eqb i.dot j.dot) (eq-eqb i.production j.production (ap (λ (x : Item). x.production) e)) (eq-eqb i.dot j.dot (ap (λ (x : Item). x.dot) e)),
)

position_or_len-map : {X : Type 0} (f : X → List Item) (p : List Item → Bool) (xs : List X) → position_or_len (λ x. p (f x)) xs ≡ position_or_len p (map f xs)
position_or_len-map f p [] = refl
position_or_len-map f p (x ∷ xs) = ap (λ n. cond (not (p (f x))) (1 + n) 0) (position_or_len-map f p xs)

position-map : {X : Type 0} (f : X → List Item) (p : List Item → Bool) (xs : List X) → position (λ x. p (f x)) xs ≡ position p (map f xs)
position-map f p xs = λ i. cond (nat_lt (position_or_len-map f p xs i) (sym (length-map xs f) i)) (Some (position_or_len-map f p xs i)) None

none-late : (b : Bool) (n : ℕ) → cond b (Some n) None ≡ None → b ≡ false
none-late true n e = cc
none-late false n e = refl

any-map : {X : Type 0} (f : X → List Item) (p : List Item → Bool) (xs : List X) → list_any (λ x. p (f x)) xs ≡ list_any p (map f xs)
any-map f p [] = refl
any-map f p (x ∷ xs) = ap (λ b. p (f x) || b) (any-map f p xs)

map-push : {X : Type 0} (f : X → List Item) (xs : List X) (x : X) → map f (xs ++ x ∷ []) ≡ map f xs ++ f x ∷ []
map-push f [] x = refl
map-push f (y ∷ xs) x = ap (λ l. f y ∷ l) (map-push f xs x)

module _ (E : Item → Item → Bool) (decides : (i j : Item) → Decides (E i j) (i ≡ j)) (kernel : List Item) where
  same-is : (other : List Item) → pointwise E kernel other ≡ true → kernel ≡ other
  same-is other e = (slice_eq-Decides decides kernel other (pointwise E kernel other) refl).0 e

  is-same : (other : List Item) → kernel ≡ other → pointwise E kernel other ≡ true
  is-same other e = (slice_eq-Decides decides kernel other (pointwise E kernel other) refl).1 e

  any-contains : (ks : List (List Item)) → list_any (pointwise E kernel) ks ≡ true → Contains ks kernel
  any-contains [] e = absurd (false≢true e)
  any-contains (k ∷ ks) e = elim (or_cases (pointwise E kernel k) (list_any (pointwise E kernel) ks) e) [
    | inl here ↦ subst (Contains (k ∷ ks)) (sym (same-is k here)) (Contains-front k ks)
    | inr later ↦ Contains-behind k ks kernel (any-contains ks later)
  ]

  module _ {X : Type 0} (f : X → List Item) (keys : List X) where
    found-at : (v : ℕ) → position (λ x. pointwise E kernel (f x)) keys ≡ Some v → (v < length (map f keys)) × (row_at (map f keys) v ≡ kernel)
    found-at v e =
        let h = position-Some (pointwise E kernel) (map f keys) v [] (sym (position-map f (pointwise E kernel) keys) ∙ e) in
        (h.0, sym (same-is (row_at (map f keys) v) h.1))

    pub found-within : (o : Option ℕ) → o ≡ position (λ x. pointwise E kernel (f x)) keys → IfSome o (λ v. v < length (map f keys))
    found-within None e = tt
    found-within (Some v) e = (found-at v (sym e)).0

    pub found-some : (o : Option ℕ) → o ≡ position (λ x. pointwise E kernel (f x)) keys → IfSome o (λ v. row_at (map f keys) v ≡ kernel)
    found-some None e = tt
    found-some (Some v) e = (found-at v (sym e)).1

    pub found-none : (o : Option ℕ) → o ≡ position (λ x. pointwise E kernel (f x)) keys → IfNone o (Contains (map f keys) kernel → ⊥)
    found-none (Some v) e = tt
    found-none None e = λ (k, low, is).
        let p = pointwise E kernel in
        let late = ltb-false (position_or_len p (map f keys)) (length (map f keys)) (none-late (nat_lt (position_or_len p (map f keys)) (length (map f keys))) (position_or_len p (map f keys)) (sym (position-map f p keys) ∙ sym e)) in
        let fails = fails_before_first p (map f keys) k kernel (omega (arith, late, low)) in
        false≢true (sym fails ∙ is-same (get_or (map f keys) k kernel) (sym is))

    pub added-last : (x : X) → f x ≡ kernel → (Contains (map f keys) kernel → ⊥) → map f (cond (list_any (λ y. pointwise E kernel (f y)) keys) keys (keys ++ x ∷ [])) ≡ map f keys ++ kernel ∷ []
    added-last x same absent =
        let no : list_any (λ y. pointwise E kernel (f y)) keys ≡ false = false_from_ne_true (list_any (λ y. pointwise E kernel (f y)) keys) (λ e. absent (any-contains (map f keys) (sym (any-map f (pointwise E kernel) keys) ∙ e))) in
        ap (λ b. map f (cond b keys (keys ++ x ∷ []))) no ∙ map-push f keys x ∙ ap (λ k. map f keys ++ k ∷ []) same

-- the kernel at a place
pub kernel-at : {X : Type 0} (f : X → List Item) (keys : List X) (s : ℕ) (k : X) → slice_get keys s ≡ Some k → row_at (map f keys) s ≡ f k
kernel-at f [] s k e = absurd (none-some k e)
kernel-at f (x ∷ keys) zero k e = ap f (same_Some x k e)
kernel-at f (x ∷ keys) (suc s) k e = kernel-at f keys s k e
