-- First and last elements, and what rests first behind a place.
use Rattle.std.specs.Prelude.{◌≡◌, refl, ℕ, zero, suc, ◌+◌, ◌≤◌, Bool, true, false, cond, List, [], ◌∷◌, ◌++◌, length, take, drop, Option, Some, None, slice_get, option_and_then}
use Rattle.std.specs.List.{find, last_or}
use Rattle.std.proofs.Common.{sym, ap, ◌∙◌, subst, arith, append-nil}
use Rattle.std.proofs.lemmas.Option.{none-some, same_Some}
use Rattle.sg_kinds.specs.Terms.{Term, Terms, Leaf, Node, NoTerm, AndTerm, terms_of}
use Rattle.sg_kinds.specs.Places.{Place, child, sub}
use Rattle.sg_kinds.specs.declared.spec.Spec.{Spec}
use Rattle.sg_terms.specs.Labels.{elided_of}
use Rattle.sg_select.specs.RestingPlaces.{above, child_place, is_open, is_shown, rests, rests_under, up_from}
use Rattle.sg_select.specs.Around.{when, kids, inside, among, part, parts}
use Rattle.sg_select.proofs.Within.{rests_child}
use Rattle.sg_select.proofs.Around.{child_is, reached_to, taken, parts_append}

-- the first of two lists, and the last of two
pub first_left : (us vs : List Place) (v : Place) → slice_get us 0 ≡ Some v → slice_get (us ++ vs) 0 ≡ Some v
first_left [] vs v at = absurd (none-some v at)
first_left (u ∷ us) vs v at = at

pub first_right : (us vs : List Place) → slice_get us 0 ≡ None → slice_get (us ++ vs) 0 ≡ slice_get vs 0
first_right [] vs none = refl
first_right (u ∷ us) vs none = absurd (none-some u (sym none))

last_from : (us vs : List Place) (o : Option Place) → last_or o (us ++ vs) ≡ last_or (last_or o us) vs
last_from [] vs o = refl
last_from (u ∷ us) vs o = last_from us vs (Some u)

some_last : (vs : List Place) (u : Place) (o : Option Place) → last_or o (u ∷ vs) ≡ last_or None (u ∷ vs)
some_last vs u o = refl

pub last_right : (us vs : List Place) (v : Place) → last_or None vs ≡ Some v → last_or None (us ++ vs) ≡ Some v
last_right us [] v at = absurd (none-some v at)
last_right us (w ∷ vs) v at = last_from us (w ∷ vs) None ∙ at

not_last : (vs : List Place) (u : Place) → last_or (Some u) vs ≡ None → ⊥
not_last [] u none = none-some u (sym none)
not_last (v ∷ vs) u none = not_last vs v none

pub last_left : (us vs : List Place) → last_or None vs ≡ None → last_or None (us ++ vs) ≡ last_or None us
last_left us [] none = ap (last_or None) (append-nil us)
last_left us (v ∷ vs) none = absurd (not_last vs v none)

pub first_none : (us : List Place) → slice_get us 0 ≡ None → us ≡ []
first_none [] none = refl
first_none (u ∷ us) none = absurd (none-some u (sym none))

pub one_up : (k : ℕ) → suc k ≡ k + 1
one_up k = omega arith

module _ (spec : Spec) where
  -- children one by one
  pub one_more : (u : Place) (x : Term) (k : ℕ) (ys : List Term) (y : Term) → slice_get ys k ≡ Some y
      → parts spec u x k (drop k ys) ≡ part spec u x k y ++ parts spec u x (k + 1) (drop (k + 1) ys)
  one_more u x k ys y at = ap (parts spec u x k) (dropped ys k y at) ∙ ap (λ j. part spec u x k y ++ parts spec u x j (drop j ys)) (one_up k)
    where
      dropped : {A : Type 0} → (xs : List A) (k : ℕ) (y : A) → slice_get xs k ≡ Some y → drop k xs ≡ y ∷ drop (suc k) xs
      dropped [] k y at = absurd (none-some y at)
      dropped (x ∷ xs) zero y at = ap (λ z. z ∷ xs) (same_Some x y at)
      dropped (x ∷ xs) (suc k) y at = dropped xs k y at

  pub one_less : (u : Place) (x : Term) (k : ℕ) (ys : List Term) (y : Term) → slice_get ys k ≡ Some y
      → parts spec u x 0 (take (k + 1) ys) ≡ parts spec u x 0 (take k ys) ++ part spec u x k y
  one_less u x k ys y at =
      ap (λ j. parts spec u x 0 (take j ys)) (sym (one_up k)) ∙ ap (parts spec u x 0) (more ys k y at) ∙ parts_append spec u x 0 (take k ys) (y ∷ [])
      ∙ ap (λ j. parts spec u x 0 (take k ys) ++ parts spec u x j (y ∷ [])) (let long = taken ys k y at in omega (arith, long))
      ∙ ap (λ l. parts spec u x 0 (take k ys) ++ l) (append-nil (part spec u x k y))
    where
      more : {A : Type 0} → (xs : List A) (k : ℕ) (y : A) → slice_get xs k ≡ Some y → take (suc k) xs ≡ take k xs ++ y ∷ []
      more [] k y at = absurd (none-some y at)
      more (x ∷ xs) zero y at = ap (λ z. z ∷ []) (same_Some x y at)
      more (x ∷ xs) (suc k) y at = ap (λ l. x ∷ l) (more xs k y at)

  -- what rests first below a node has the same above it as the node's children would have
  module _ (t : Term) where
    abbrev pub HasUp : Place → List Place → Type 0
    HasUp u vs = (v : Place) → slice_get vs 0 ≡ Some v → up_from spec t v ≡ find (rests spec t) (u ∷ above u)

    first_of : (u : Place) (us vs : List Place) → HasUp u us → (slice_get us 0 ≡ None → HasUp u vs) → HasUp u (us ++ vs)
    first_of u [] vs one two = two refl
    first_of u (w ∷ us) vs one two = one

    part_up : (k : ℕ) (u : Place) (x y : Term) → sub t u ≡ Some x → sub t (k ∷ u) ≡ Some y → is_open spec t u ≡ true → elided_of x ≡ false
        → (sub t (k ∷ u) ≡ Some y → is_open spec t (k ∷ u) ≡ true → HasUp (k ∷ u) (inside spec (k ∷ u) y)) → HasUp u (part spec u x k y)
    part_up k u x y at there way whole further = by (is_shown (child_place spec x k)) refl
      where
        by : (b : Bool) → is_shown (child_place spec x k) ≡ b → HasUp u (when b (when (rests_under spec x k y) ((k ∷ u) ∷ []) ++ inside spec (k ∷ u) y))
        by false is = λ v none. absurd (none-some v none)
        by true is =
            let reached = reached_to spec t k u x at (record { way = way; whole = whole; shown = is }) in
            shown (rests_under spec x k y) (rests_child spec t k u x y at there reached) (further there reached)
          where
            shown : (b : Bool) → rests spec t (k ∷ u) ≡ b → HasUp (k ∷ u) (inside spec (k ∷ u) y) → HasUp u (when b ((k ∷ u) ∷ []) ++ inside spec (k ∷ u) y)
            shown true rest below = λ v first. ap (up_from spec t) (sym (same_Some (k ∷ u) v first))
            shown false rest below = λ v first. below v first ∙ ap (λ b. cond b (Some (k ∷ u)) (find (rests spec t) (above (k ∷ u)))) rest

    mutual
      pub inside_up : (x : Term) (u : Place) → sub t u ≡ Some x → is_open spec t u ≡ true → HasUp u (inside spec u x)
      inside_up (Leaf p s) u at way = λ v none. absurd (none-some v none)
      inside_up (Node op n true ts) u at way = λ v none. absurd (none-some v none)
      inside_up (Node op n false ts) u at way = among_up op n ts ts u 0 at way (λ i. ap (slice_get (terms_of ts)) (omega arith))

      among_up : (op n : ℕ) (all ts : Terms) (u : Place) (k : ℕ) → sub t u ≡ Some (Node op n false all) → is_open spec t u ≡ true
          → ((i : ℕ) → slice_get (terms_of all) (k + i) ≡ slice_get (terms_of ts) i) → HasUp u (among spec u (Node op n false all) k ts)
      among_up op n all NoTerm u k at way these = λ v none. absurd (none-some v none)
      among_up op n all (AndTerm y ys) u k at way these =
          first_of u (part spec u (Node op n false all) k y) (among spec u (Node op n false all) (suc k) ys)
          (part_up k u (Node op n false all) y at
          (ap (option_and_then (child k)) at ∙ subst (λ j. slice_get (terms_of all) j ≡ Some y) (omega arith) (these 0)) way refl
          (λ there reached. inside_up y (k ∷ u) there reached))
          (λ none. among_up op n all ys u (suc k) at way (λ i. subst (λ j. slice_get (terms_of all) j ≡ slice_get (terms_of ys) i) (omega arith) (these (suc i))))

    -- nor has what rests first among the children of a node from a number on another above it
    pub parts_up : (u : Place) (x : Term) (k : ℕ) (ys : List Term) → sub t u ≡ Some x → is_open spec t u ≡ true → elided_of x ≡ false
        → ((i : ℕ) → slice_get (kids x) (k + i) ≡ slice_get ys i) → HasUp u (parts spec u x k ys)
    parts_up u x k [] at way whole these = λ v none. absurd (none-some v none)
    parts_up u x k (y ∷ ys) at way whole these =
        first_of u (part spec u x k y) (parts spec u x (suc k) ys)
        (part_up k u x y at
        (ap (option_and_then (child k)) at ∙ child_is k x ∙ subst (λ j. slice_get (kids x) j ≡ Some y) (omega arith) (these 0)) way whole
        (λ there reached. inside_up y (k ∷ u) there reached))
        (λ none. parts_up u x (suc k) ys at way whole (λ i. subst (λ j. slice_get (kids x) j ≡ slice_get ys i) (omega arith) (these (suc i))))

pub take_all : {A : Type 0} → (n : ℕ) (xs : List A) → length xs ≤ n → take n xs ≡ xs
take_all zero [] long = refl
take_all (suc n) [] long = refl
take_all zero (x ∷ xs) long = absurd (omega (arith, long))
take_all (suc n) (x ∷ xs) long = ap (λ l. x ∷ l) (take_all n xs (omega (arith, long)))
