-- The resting places of a term around one of its places: those before it, it, those inside, and those after it.
use Rattle.std.specs.Prelude.{◌≡◌, refl, ℕ, zero, suc, ◌+◌, Bool, true, false, not, ◌&&◌, List, [], ◌∷◌, ◌++◌, length, take, drop, Option, Some, None, slice_get, option_map, option_and_then, unwrap_or}
use Rattle.std.proofs.Common.{sym, ap, ◌∙◌, arith, append_assoc, append-nil}
use Rattle.std.proofs.lemmas.Bool.{false≢true}
use Rattle.std.proofs.lemmas.Option.{none-some, same_Some}
use Rattle.sg_kinds.specs.Terms.{Term, Terms, Leaf, Node, NoTerm, AndTerm, terms_of}
use Rattle.sg_kinds.specs.Places.{Place, child, sub}
use Rattle.sg_kinds.specs.declared.spec.Spec.{Spec}
use Rattle.sg_terms.specs.Labels.{elided_of}
use Rattle.sg_select.specs.RestingPlaces.{child_place, is_shown, leads_on, rests_under, is_open, resting}
use Rattle.sg_select.specs.Around.{when, kids, inside, among, part, parts, own, earlier, later, before, after}
use Rattle.sg_select.proofs.Within.{open_child, rests_child, listed}

pub child_is : (k : ℕ) (x : Term) → child k x ≡ slice_get (kids x) k
child_is k (Leaf p v) = refl
child_is k (Node op n elided ts) = refl

-- the node above a node that is there
pub record HasAbove (t : Term) (k : ℕ) (u : Place) (y : Term) : Type 0 where
  pub node : Term
  pub there : sub t u ≡ Some node
  pub kid : slice_get (kids node) k ≡ Some y

pub above_there : (t : Term) (k : ℕ) (u : Place) (y : Term) → sub t (k ∷ u) ≡ Some y → HasAbove t k u y
above_there t k u y at = by (sub t u) refl at
  where
    by : (o : Option Term) → sub t u ≡ o → option_and_then (child k) o ≡ Some y → HasAbove t k u y
    by None is got = absurd (none-some y got)
    by (Some x) is got = record { node = x; there = is; kid = sym (child_is k x) ∙ got }

-- a list at one of its elements
pub split_at : {A : Type 0} → (xs : List A) (k : ℕ) (y : A) → slice_get xs k ≡ Some y → xs ≡ take k xs ++ y ∷ drop (suc k) xs
split_at [] k y at = absurd (none-some y at)
split_at (x ∷ xs) zero y at = ap (λ z. z ∷ xs) (same_Some x y at)
split_at (x ∷ xs) (suc k) y at = ap (λ l. x ∷ l) (split_at xs k y at)

pub taken : {A : Type 0} → (xs : List A) (k : ℕ) (y : A) → slice_get xs k ≡ Some y → length (take k xs) ≡ k
taken [] k y at = absurd (none-some y at)
taken (x ∷ xs) zero y at = refl
taken (x ∷ xs) (suc k) y at = ap suc (taken xs k y at)

module _ (spec : Spec) where
  among_parts : (u : Place) (x : Term) (k : ℕ) (ts : Terms) → among spec u x k ts ≡ parts spec u x k (terms_of ts)
  among_parts u x k NoTerm = refl
  among_parts u x k (AndTerm y ys) = ap (λ l. part spec u x k y ++ l) (among_parts u x (suc k) ys)

  pub inside_parts : (u : Place) (x : Term) → elided_of x ≡ false → inside spec u x ≡ parts spec u x 0 (kids x)
  inside_parts u (Leaf p v) way = refl
  inside_parts u (Node op n elided ts) way = ap (λ b. when (not b) (among spec u (Node op n elided ts) 0 ts)) way ∙ among_parts u (Node op n elided ts) 0 ts

  pub inside_none : (u : Place) (x : Term) → elided_of x ≡ true → inside spec u x ≡ []
  inside_none u (Leaf p v) closed = refl
  inside_none u (Node op n elided ts) closed = ap (λ b. when (not b) (among spec u (Node op n elided ts) 0 ts)) closed

  pub parts_append : (u : Place) (x : Term) (k : ℕ) (ys zs : List Term) → parts spec u x k (ys ++ zs) ≡ parts spec u x k ys ++ parts spec u x (k + length ys) zs
  parts_append u x k [] zs = ap (λ j. parts spec u x j zs) (omega arith)
  parts_append u x k (y ∷ ys) zs =
      ap (λ l. part spec u x k y ++ l) (parts_append u x (suc k) ys zs)
      ∙ sym (append_assoc (part spec u x k y) (parts spec u x (suc k) ys) (parts spec u x (suc k + length ys) zs))
      ∙ ap (λ j. (part spec u x k y ++ parts spec u x (suc k) ys) ++ parts spec u x j zs) (omega arith)

  parts_split : (u : Place) (x : Term) (ys : List Term) (k : ℕ) (y : Term) → slice_get ys k ≡ Some y
      → parts spec u x 0 ys ≡ parts spec u x 0 (take k ys) ++ (part spec u x k y ++ parts spec u x (suc k) (drop (suc k) ys))
  parts_split u x ys k y at =
      ap (parts spec u x 0) (split_at ys k y at) ∙ parts_append u x 0 (take k ys) (y ∷ drop (suc k) ys)
      ∙ ap (λ j. parts spec u x 0 (take k ys) ++ parts spec u x j (y ∷ drop (suc k) ys)) (let long = taken ys k y at in omega (arith, long))

  module _ (t : Term) where
    regroup : (B S E O I L A : List Place) → B ++ (S ++ ((E ++ ((O ++ I) ++ L)) ++ A)) ≡ (B ++ (S ++ E)) ++ (O ++ (I ++ (L ++ A)))
    regroup B S E O I L A =
        ap (λ l. B ++ (S ++ l)) (append_assoc E ((O ++ I) ++ L) A ∙ ap (λ l. E ++ l) (append_assoc (O ++ I) L A ∙ append_assoc O I (L ++ A)))
        ∙ ap (λ l. B ++ l) (sym (append_assoc S E (O ++ (I ++ (L ++ A)))))
        ∙ sym (append_assoc B (S ++ E) (O ++ (I ++ (L ++ A))))

    -- a child of a node that can be reached: the node is not elided and shows the child
    pub record IsReached (k : ℕ) (u : Place) (x : Term) : Type 0 where
      pub way : is_open spec t u ≡ true
      pub whole : elided_of x ≡ false
      pub shown : is_shown (child_place spec x k) ≡ true

    both_true : (a b : Bool) → (a && b) ≡ true → (a ≡ true) × (b ≡ true)
    both_true true b h = (refl, h)
    both_true false b h = absurd (false≢true h)

    not_so : (a : Bool) → not a ≡ true → a ≡ false
    not_so true h = absurd (false≢true h)
    not_so false h = refl

    pub reached_from : (k : ℕ) (u : Place) (x : Term) → sub t u ≡ Some x → is_open spec t (k ∷ u) ≡ true → IsReached k u x
    reached_from k u x at way =
        let up = both_true (is_open spec t u) (unwrap_or (option_map (λ y. leads_on spec y k) (sub t u)) false) way in
        let on = both_true (not (elided_of x)) (is_shown (child_place spec x k)) (sym (open_child spec t k u x at up.0) ∙ way) in
        record { way = up.0; whole = not_so (elided_of x) on.0; shown = on.1 }

    pub reached_to : (k : ℕ) (u : Place) (x : Term) → sub t u ≡ Some x → IsReached k u x → is_open spec t (k ∷ u) ≡ true
    reached_to k u x at r = open_child spec t k u x at r.way ∙ ap (λ b. not b && is_shown (child_place spec x k)) r.whole ∙ r.shown

    pub part_is : (k : ℕ) (u : Place) (x y : Term) → sub t u ≡ Some x → sub t (k ∷ u) ≡ Some y → is_open spec t (k ∷ u) ≡ true
        → part spec u x k y ≡ own spec t (k ∷ u) ++ inside spec (k ∷ u) y
    part_is k u x y at there way =
        ap (λ b. when b (when (rests_under spec x k y) ((k ∷ u) ∷ []) ++ inside spec (k ∷ u) y)) (reached_from k u x at way).shown
        ∙ ap (λ b. when b ((k ∷ u) ∷ []) ++ inside spec (k ∷ u) y) (sym (rests_child spec t k u x y at there way))

    pub zipped : (u : Place) (x : Term) → sub t u ≡ Some x → is_open spec t u ≡ true
        → resting spec t ≡ before spec t u ++ (own spec t u ++ (inside spec u x ++ after spec t u))
    zipped [] x at way =
        let same = same_Some t x at in
        listed spec t t [] refl refl
        ∙ ap (λ l. ([] ∷ []) ++ l) (sym (append-nil (inside spec [] t)))
        ∙ ap (λ z. ([] ∷ []) ++ (inside spec [] z ++ [])) same
    zipped (k ∷ u) y at way =
        let up = above_there t k u y at in
        let x = up.node in
        let reached = reached_from k u x up.there way in
        let split = inside_parts u x reached.whole ∙ parts_split u x (kids x) k y up.kid
        ∙ ap (λ l. parts spec u x 0 (take k (kids x)) ++ (l ++ parts spec u x (suc k) (drop (suc k) (kids x)))) (part_is k u x y up.there at way) in
        zipped u x up.there reached.way
        ∙ ap (λ l. before spec t u ++ (own spec t u ++ (l ++ after spec t u))) split
        ∙ regroup (before spec t u) (own spec t u) (parts spec u x 0 (take k (kids x))) (own spec t (k ∷ u)) (inside spec (k ∷ u) y) (parts spec u x (suc k) (drop (suc k) (kids x))) (after spec t u)
        ∙ ap (λ o. (before spec t u ++ (own spec t u ++ earlier spec t k u o)) ++ (own spec t (k ∷ u) ++ (inside spec (k ∷ u) y ++ (later spec t k u o ++ after spec t u)))) (sym up.there)
