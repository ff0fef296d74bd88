-- Resting places by recursion: those below a node that can be reached.
use Rattle.std.specs.Prelude.{◌≡◌, refl, ℕ, suc, ◌+◌, Bool, true, false, cond, List, [], ◌∷◌, ◌++◌, ◌&&◌, filter, Some, slice_get, option_map, option_and_then, unwrap_or}
use Rattle.std.proofs.Common.{sym, ap, ◌∙◌, subst, arith}
use Rattle.std.proofs.lemmas.Bool.{false≢true}
use Rattle.std.proofs.lemmas.List.Elements.{filter-append}
use Rattle.sg_kinds.specs.Terms.{Term, Terms, Leaf, Node, NoTerm, AndTerm, terms_of}
use Rattle.sg_kinds.specs.Places.{Place, child, sub, places_from, places_among}
use Rattle.sg_kinds.specs.declared.spec.Spec.{Spec}
use Rattle.sg_select.specs.Around.{when, inside, among}
use Rattle.sg_select.specs.RestingPlaces.{child_place, is_shown, leads_on, rests_under, is_open, stands_resting, rests}

-- what is false behind anything
pub and_off : (a b : Bool) → b ≡ false → (a && b) ≡ false
and_off true b off = off
and_off false b off = refl

when_cons : (b : Bool) (u : Place) (us : List Place) → cond b (u ∷ us) us ≡ when b (u ∷ []) ++ us
when_cons true u us = refl
when_cons false u us = refl

module _ (spec : Spec) where
  module _ (t : Term) where
    pub open_child : (k : ℕ) (u : Place) (x : Term) → sub t u ≡ Some x → is_open spec t u ≡ true → is_open spec t (k ∷ u) ≡ leads_on spec x k
    open_child k u x at way =
        ap (λ b. b && unwrap_or (option_map (λ y. leads_on spec y k) (sub t u)) false) way ∙ ap (λ o. unwrap_or (option_map (λ y. leads_on spec y k) o) false) at

    pub rests_child : (k : ℕ) (u : Place) (x y : Term) → sub t u ≡ Some x → sub t (k ∷ u) ≡ Some y → is_open spec t (k ∷ u) ≡ true → rests spec t (k ∷ u) ≡ rests_under spec x k y
    rests_child k u x y at there way =
        ap (λ b. b && stands_resting spec t k u) way
        ∙ ap (λ o. unwrap_or (option_and_then (λ z. option_map (rests_under spec z k) (sub t (k ∷ u))) o) false) at
        ∙ ap (λ o. unwrap_or (option_map (rests_under spec x k) o) false) there

    pub closed_rests : (v : Place) → is_open spec t v ≡ false → rests spec t v ≡ false
    closed_rests [] closed = absurd (false≢true (sym closed))
    closed_rests (k ∷ u) closed = ap (λ b. b && stands_resting spec t k u) closed

    -- nothing rests below what cannot be reached
    mutual
      closed_from : (y : Term) (v : Place) → is_open spec t v ≡ false → filter (rests spec t) (places_from v y) ≡ []
      closed_from (Leaf p s) v closed = ap (λ b. cond b (v ∷ []) []) (closed_rests v closed)
      closed_from (Node op n elided ts) v closed =
          ap (λ b. cond b (v ∷ filter (rests spec t) (places_among v 0 ts)) (filter (rests spec t) (places_among v 0 ts))) (closed_rests v closed)
          ∙ closed_among ts v 0 (λ k. ap (λ b. b && unwrap_or (option_map (λ y. leads_on spec y k) (sub t v)) false) closed)

      closed_among : (ts : Terms) (v : Place) (k : ℕ) → ((i : ℕ) → is_open spec t (i ∷ v) ≡ false) → filter (rests spec t) (places_among v k ts) ≡ []
      closed_among NoTerm v k closed = refl
      closed_among (AndTerm y ys) v k closed =
          filter-append (rests spec t) (places_from (k ∷ v) y) (places_among v (suc k) ys)
          ∙ ap (λ l. l ++ filter (rests spec t) (places_among v (suc k) ys)) (closed_from y (k ∷ v) (closed k)) ∙ closed_among ys v (suc k) closed

    -- what rests at and below a node that can be reached
    mutual
      pub listed : (x : Term) (u : Place) → sub t u ≡ Some x → is_open spec t u ≡ true
          → filter (rests spec t) (places_from u x) ≡ when (rests spec t u) (u ∷ []) ++ inside spec u x
      listed (Leaf p v) u at way = when_cons (rests spec t u) u []
      listed (Node op n true ts) u at way =
          when_cons (rests spec t u) u (filter (rests spec t) (places_among u 0 ts))
          ∙ ap (λ l. when (rests spec t u) (u ∷ []) ++ l) (closed_among ts u 0 (λ i. open_child i u (Node op n true ts) at way))
      listed (Node op n false ts) u at way =
          when_cons (rests spec t u) u (filter (rests spec t) (places_among u 0 ts))
          ∙ ap (λ l. when (rests spec t u) (u ∷ []) ++ l) (listed_among op n ts ts u 0 at way (λ i. ap (slice_get (terms_of ts)) (omega arith)))

      listed_among : (op n : ℕ) (all ts : Terms) (u : Place) (k : ℕ) → sub t u ≡ Some (Node op n false all) → is_open spec t u ≡ true
          → ((i : ℕ) → slice_get (terms_of all) (k + i) ≡ slice_get (terms_of ts) i)
          → filter (rests spec t) (places_among u k ts) ≡ among spec u (Node op n false all) k ts
      listed_among op n all NoTerm u k at way kids = refl
      listed_among op n all (AndTerm y ys) u k at way kids =
          filter-append (rests spec t) (places_from (k ∷ u) y) (places_among u (suc k) ys)
          ∙ ap (λ l. l ++ filter (rests spec t) (places_among u (suc k) ys)) (first (is_shown (child_place spec x k)) refl (λ reached. listed y (k ∷ u) child_there reached))
          ∙ ap (λ l. when (is_shown (child_place spec x k)) (when (rests_under spec x k y) ((k ∷ u) ∷ []) ++ inside spec (k ∷ u) y) ++ l)
          (listed_among op n all ys u (suc k) at way (λ i. subst (λ j. slice_get (terms_of all) j ≡ slice_get (terms_of ys) i) (omega arith) (kids (suc i))))
        where
          x : Term
          x = Node op n false all

          child_there : sub t (k ∷ u) ≡ Some y
          child_there = ap (option_and_then (child k)) at ∙ subst (λ j. slice_get (terms_of all) j ≡ Some y) (omega arith) (kids 0)

          first : (b : Bool) → is_shown (child_place spec x k) ≡ b
              → (is_open spec t (k ∷ u) ≡ true → filter (rests spec t) (places_from (k ∷ u) y) ≡ when (rests spec t (k ∷ u)) ((k ∷ u) ∷ []) ++ inside spec (k ∷ u) y)
              → filter (rests spec t) (places_from (k ∷ u) y) ≡ when b (when (rests_under spec x k y) ((k ∷ u) ∷ []) ++ inside spec (k ∷ u) y)
          first true is again =
              let reached : is_open spec t (k ∷ u) ≡ true = open_child k u x at way ∙ is in
              again reached ∙ ap (λ b. when b ((k ∷ u) ∷ []) ++ inside spec (k ∷ u) y) (rests_child k u x y at child_there reached)
          first false is again = closed_from y (k ∷ u) (open_child k u x at way ∙ is)
