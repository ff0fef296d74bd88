-- Where the resting places around a place stand.
use Rattle.std.specs.Prelude.{◌≡◌, refl, ℕ, zero, suc, ◌+◌, ◌<◌, ◌≤◌, Bool, true, false, not, List, [], ◌∷◌, ◌++◌, length, take, drop, Contains, get_or, Option, Some, None}
use Rattle.std.proofs.Common.{sym, ap, ◌∙◌, subst, inl, inr, arith, length-append}
use Rattle.std.proofs.Math.Seq.{get_or-append_seam}
use Rattle.std.proofs.lemmas.List.Elements.{Contains-append_cases}
use Rattle.sg_kinds.specs.Terms.{Term, Terms, Leaf, Node, NoTerm, AndTerm}
use Rattle.sg_kinds.specs.Places.{Place, sub}
use Rattle.sg_kinds.specs.declared.spec.Spec.{Spec}
use Rattle.sg_groves.specs.Evaluated.{IsAtOrBelow}
use Rattle.sg_groves.proofs.Below.{below_itself}
use Rattle.sg_groves.proofs.Lists.{contains_either, contains_none}
use Rattle.sg_select.specs.RestingPlaces.{child_place, is_shown, rests_under, rests}
use Rattle.sg_select.specs.Around.{when, kids, inside, among, part, parts, own, earlier, later, before, after}

when_has : (b : Bool) (us : List Place) (v : Place) → Contains (when b us) v → Contains us v
when_has true us v has = has
when_has false us v has = absurd (contains_none v has)

one_has : (u v : Place) → Contains (u ∷ []) v → v ≡ u
one_has u v has = elim (contains_either u [] v has) [ inl same ↦ sym same | inr none ↦ absurd (contains_none v none) ]

-- a place is below one child alone
one_child : (v : Place) (j k : ℕ) (u : Place) → IsAtOrBelow v (j ∷ u) → IsAtOrBelow v (k ∷ u) → j ≡ k
one_child v j k u one two =
    let first : length v ≡ length one.below + length (j ∷ u) = ap length one.is ∙ length-append one.below (j ∷ u) in
    let second : length v ≡ length two.below + length (k ∷ u) = ap length two.is ∙ length-append two.below (k ∷ u) in
    let same : length one.below ≡ length two.below = omega (arith, first, second) in
    sym (get_or-append_seam one.below j u 0) ∙ ap (λ w. get_or w (length one.below) 0) (sym one.is) ∙ ap (λ n. get_or v n 0) same
    ∙ ap (λ w. get_or w (length two.below) 0) two.is ∙ get_or-append_seam two.below k u 0

-- a place below a child of another
pub record IsUnder (k : ℕ) (u v : Place) : Type 0 where
  pub child : ℕ
  pub low : k ≤ child
  pub below : IsAtOrBelow v (child ∷ u)

below_up : (k : ℕ) (u v : Place) → IsAtOrBelow v (k ∷ u) → IsAtOrBelow v u
below_up k u v b = record { below = b.below ++ k ∷ []; is = b.is ∙ joined b.below }
  where
    joined : (w : Place) → w ++ k ∷ u ≡ (w ++ k ∷ []) ++ u
    joined [] = refl
    joined (j ∷ w) = ap (λ l. j ∷ l) (joined w)

pub under_below : (k : ℕ) (u v : Place) → IsUnder k u v → IsAtOrBelow v u
under_below k u v h = below_up h.child u v h.below

-- no place is below its own child
pub not_under : (k : ℕ) (u : Place) → IsUnder k u u → ⊥
not_under k u h =
    let long : length u ≡ length h.below.below + length (h.child ∷ u) = ap length h.below.is ∙ length-append h.below.below (h.child ∷ u) in
    omega (arith, long)

module _ (spec : Spec) where
  part_from : (k : ℕ) (u : Place) (x y : Term) (v : Place) → Contains (part spec u x k y) v → (Contains (inside spec (k ∷ u) y) v → IsAtOrBelow v (k ∷ u)) → IsAtOrBelow v (k ∷ u)
  part_from k u x y v has further =
      elim (Contains-append_cases (when (rests_under spec x k y) ((k ∷ u) ∷ [])) (inside spec (k ∷ u) y) v (when_has (is_shown (child_place spec x k)) _ v has)) [
        | inl here ↦ subst (λ w. IsAtOrBelow w (k ∷ u)) (sym (one_has (k ∷ u) v (when_has (rests_under spec x k y) ((k ∷ u) ∷ []) v here))) (below_itself (k ∷ u))
        | inr rest ↦ further rest
      ]

  mutual
    pub inside_under : (u : Place) (x : Term) (v : Place) → Contains (inside spec u x) v → IsUnder 0 u v
    inside_under u (Leaf p s) v has = absurd (contains_none v has)
    inside_under u (Node op n elided ts) v has = among_under u (Node op n elided ts) 0 ts v (when_has (not elided) (among spec u (Node op n elided ts) 0 ts) v has)

    among_under : (u : Place) (x : Term) (k : ℕ) (ts : Terms) (v : Place) → Contains (among spec u x k ts) v → IsUnder k u v
    among_under u x k NoTerm v has = absurd (contains_none v has)
    among_under u x k (AndTerm y ys) v has = elim (Contains-append_cases (part spec u x k y) (among spec u x (suc k) ys) v has) [
      | inl here ↦ record { child = k; low = omega arith; below = part_from k u x y v here (λ h. under_below 0 (k ∷ u) v (inside_under (k ∷ u) y v h)) }
      | inr rest ↦ (let later = among_under u x (suc k) ys v rest in record { child = later.child; low = (let low = later.low in omega (arith, low)); below = later.below })
    ]

  pub part_under : (k : ℕ) (u : Place) (x y : Term) (v : Place) → Contains (part spec u x k y) v → IsAtOrBelow v (k ∷ u)
  part_under k u x y v has = part_from k u x y v has (λ h. under_below 0 (k ∷ u) v (inside_under (k ∷ u) y v h))

  -- those below children from a number on, and below so many
  pub parts_under : (u : Place) (x : Term) (k : ℕ) (ys : List Term) (v : Place) → Contains (parts spec u x k ys) v
      → (j : ℕ) × (k ≤ j) × (j < k + length ys) × IsAtOrBelow v (j ∷ u)
  parts_under u x k [] v has = absurd (contains_none v has)
  parts_under u x k (y ∷ ys) v has = elim (Contains-append_cases (part spec u x k y) (parts spec u x (suc k) ys) v has) [
    | inl here ↦ (k, omega arith, omega arith, part_under k u x y v here)
    | inr rest ↦ (let more = parts_under u x (suc k) ys v rest in let low = more.1 in let high = more.2 in (more.0, omega (arith, low), omega (arith, high), more.3))
  ]

  module _ (t : Term) where
    later_apart : (k : ℕ) (u : Place) (o : Option Term) (v : Place) → Contains (later spec t k u o) v → (IsAtOrBelow v (k ∷ u) → ⊥) × IsAtOrBelow v u
    later_apart k u None v has = absurd (contains_none v has)
    later_apart k u (Some x) v has =
        let there = parts_under u x (suc k) (drop (suc k) (kids x)) v has in
        let low = there.1 in
        ((λ b. let same = one_child v k there.0 u b there.3 in omega (arith, same, low)), below_up there.0 u v there.3)

    -- what comes after a place is not below it
    pub after_apart : (u v : Place) → Contains (after spec t u) v → IsAtOrBelow v u → ⊥
    after_apart [] v has b = contains_none v has
    after_apart (k ∷ u) v has b = elim (Contains-append_cases (later spec t k u (sub t u)) (after spec t u) v has) [
      | inl here ↦ (later_apart k u (sub t u) v here).0 b
      | inr rest ↦ after_apart u v rest (below_up k u v b)
    ]

    taken_few : {A : Type 0} → (k : ℕ) (xs : List A) → length (take k xs) ≤ k
    taken_few zero xs = omega arith
    taken_few (suc k) [] = omega arith
    taken_few (suc k) (x ∷ xs) = let few = taken_few k xs in omega (arith, few)

    earlier_apart : (k : ℕ) (u : Place) (o : Option Term) (v : Place) → Contains (earlier spec t k u o) v → IsAtOrBelow v (k ∷ u) → ⊥
    earlier_apart k u None v has b = contains_none v has
    earlier_apart k u (Some x) v has b =
        let there = parts_under u x 0 (take k (kids x)) v has in
        let high = there.2 in
        let few = taken_few k (kids x) in
        let same = one_child v k there.0 u b there.3 in
        omega (arith, same, high, few)

    -- and what comes before it is not below it
    pub before_apart : (u v : Place) → Contains (before spec t u) v → IsAtOrBelow v u → ⊥
    before_apart [] v has b = contains_none v has
    before_apart (k ∷ u) v has b = elim (Contains-append_cases (before spec t u) (own spec t u ++ earlier spec t k u (sub t u)) v has) [
      | inl here ↦ before_apart u v here (below_up k u v b)
      | inr rest ↦ elim (Contains-append_cases (own spec t u) (earlier spec t k u (sub t u)) v rest) [
        | inl itself ↦ not_under 0 u (record { child = k; low = omega arith; below = subst (λ w. IsAtOrBelow w (k ∷ u)) (one_has u v (when_has (rests spec t u) (u ∷ []) v itself)) b })
        | inr those ↦ earlier_apart k u (sub t u) v those b
      ]
    ]
