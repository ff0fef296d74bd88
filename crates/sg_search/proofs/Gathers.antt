-- Places gathered along a walk over the children of a node.
use Rattle.std.specs.Prelude.{◌≡◌, refl, ℕ, suc, ◌+◌, Bool, true, false, cond, List, [], ◌∷◌, ◌++◌, length, take, filter, Some, slice_get}
use Rattle.std.proofs.Common.{sym, ap, ◌∙◌, subst, arith, append_assoc, append-nil}
use Rattle.std.proofs.lemmas.List.Elements.{filter-append}
use Rattle.sg_kinds.specs.Places.{Place, places_from, places_among}
use Rattle.sg_kinds.specs.Terms.{Term, Leaf, Node, kids_of}
use Rattle.sg_forest.specs.declared.node_id.NodeId.{NodeId}
use Rattle.sg_forest.specs.Trees.{Climbs}
use Rattle.sg_groves.specs.Grove.{Grove, nodes}
use Rattle.sg_build.proofs.Told.{kids_back, taken_more}
use Rattle.sg_select.specs.Around.{kids}
use Rattle.sg_select.proofs.Around.{taken}
use Rattle.sg_search.specs.Gathered.{AreAt, Gained}

-- the places of a node, before those of its children
pub from_over : (u : Place) (x : Term) → places_from u x ≡ u ∷ places_among u 0 (kids_of (kids x))
from_over u (Leaf p v) = refl
from_over u (Node op n elided ts) = ap (λ l. u ∷ places_among u 0 l) (sym (kids_back ts))

-- those of one more child
among-append : (u : Place) (k : ℕ) (ys : List Term) (y : Term) → places_among u k (kids_of (ys ++ y ∷ [])) ≡ places_among u k (kids_of ys) ++ places_from ((k + length ys) ∷ u) y
among-append u k [] y = append-nil (places_from (k ∷ u) y) ∙ ap (λ j. places_from (j ∷ u) y) (omega arith)
among-append u k (x ∷ ys) y =
    let same : suc k + length ys ≡ k + suc (length ys) = omega arith in
    ap (λ l. places_from (k ∷ u) x ++ l) (among-append u (suc k) ys y)
    ∙ sym (append_assoc (places_from (k ∷ u) x) (places_among u (suc k) (kids_of ys)) (places_from ((suc k + length ys) ∷ u) y))
    ∙ ap (λ j. (places_from (k ∷ u) x ++ places_among u (suc k) (kids_of ys)) ++ places_from (j ∷ u) y) same

pub among_more : (u : Place) (x : Term) (k : ℕ) (y : Term) → slice_get (kids x) k ≡ Some y
    → places_among u 0 (kids_of (take (k + 1) (kids x))) ≡ places_among u 0 (kids_of (take k (kids x))) ++ places_from (k ∷ u) y
among_more u x k y at =
    let long = taken (kids x) k y at in
    let same : 0 + length (take k (kids x)) ≡ k = omega (arith, long) in
    ap (λ l. places_among u 0 (kids_of l)) (taken_more (kids x) k y at) ∙ among-append u 0 (take k (kids x)) y
    ∙ ap (λ j. places_among u 0 (kids_of (take k (kids x))) ++ places_from (j ∷ u) y) same

module _ (g : Grove) (root : NodeId) where
  at-append : (ns ms : List NodeId) (us vs : List Place) → AreAt g root ns us → AreAt g root ms vs → AreAt g root (ns ++ ms) (us ++ vs)
  at-append [] ms [] vs one two = two
  at-append [] ms (u ∷ us) vs one two = absurd one
  at-append (n ∷ ns) ms [] vs one two = absurd one
  at-append (n ∷ ns) ms (u ∷ us) vs one two = (one.0, at-append ns ms us vs one.1 two)

  pub gained_none : (old : List NodeId) → Gained g root old old []
  gained_none old = record { more = []; is = sym (append-nil old); at = tt }

  pub gained_one : (old : List NodeId) (n : NodeId) (u : Place) → Climbs (nodes g) u n root → Gained g root old (old ++ n ∷ []) (u ∷ [])
  gained_one old n u way = record { more = n ∷ []; is = refl; at = (way, tt) }

  pub gained_more : (old mid new : List NodeId) (us vs : List Place) → Gained g root old mid us → Gained g root mid new vs → Gained g root old new (us ++ vs)
  gained_more old mid new us vs one two = record {
    more = one.more ++ two.more;
    is = two.is ∙ ap (λ l. l ++ two.more) one.is ∙ append_assoc old one.more two.more;
    at = at-append one.more two.more us vs one.at two.at;
  }

  pub all_gained : (new : List NodeId) (us : List Place) → Gained g root [] new us → AreAt g root new us
  all_gained new us got = subst (λ l. AreAt g root l us) (sym got.is) got.at

  -- the node's own place, and those of its children up to a number
  module _ (test : Place → Bool) (u : Place) (x : Term) where
    abbrev pub GainedTo : ℕ → List NodeId → List NodeId → Type 0
    GainedTo k old new = Gained g root old new (filter test (u ∷ places_among u 0 (kids_of (take k (kids x)))))

    pub own_gained : (old : List NodeId) (n : NodeId) → Climbs (nodes g) u n root → test u ≡ true → GainedTo 0 old (old ++ n ∷ [])
    own_gained old n way on = subst (λ b. Gained g root old (old ++ n ∷ []) (cond b (u ∷ []) [])) (sym on) (gained_one old n u way)

    pub own_not : (old : List NodeId) → test u ≡ false → GainedTo 0 old old
    own_not old off = subst (λ b. Gained g root old old (cond b (u ∷ []) [])) (sym off) (gained_none old)

    pub own_by : (old new : List NodeId) (n : NodeId) (b : Bool) → Climbs (nodes g) u n root → test u ≡ b → new ≡ cond b (old ++ n ∷ []) old → GainedTo 0 old new
    own_by old new n true way on is = subst (GainedTo 0 old) (sym is) (own_gained old n way on)
    own_by old new n false way off is = subst (GainedTo 0 old) (sym is) (own_not old off)

    pub kid_gained : (k : ℕ) (y : Term) (old mid new : List NodeId) → slice_get (kids x) k ≡ Some y → GainedTo k old mid → Gained g root mid new (filter test (places_from (k ∷ u) y)) → GainedTo (k + 1) old new
    kid_gained k y old mid new at one two =
        let more = ap (λ l. filter test (u ∷ l)) (among_more u x k y at) ∙ filter-append test (u ∷ places_among u 0 (kids_of (take k (kids x)))) (places_from (k ∷ u) y) in
        subst (Gained g root old new) (sym more)
        (gained_more old mid new (filter test (u ∷ places_among u 0 (kids_of (take k (kids x))))) (filter test (places_from (k ∷ u) y)) one two)

    pub whole_gained : (k : ℕ) (old new : List NodeId) → take k (kids x) ≡ kids x → GainedTo k old new → Gained g root old new (filter test (places_from u x))
    whole_gained k old new all got =
        subst (Gained g root old new) (ap (λ l. filter test (u ∷ places_among u 0 (kids_of l))) all ∙ ap (filter test) (sym (from_over u x))) got
