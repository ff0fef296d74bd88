-- The first of the resting places around a place at which a transformation applies.
use Rattle.std.specs.Prelude.{◌≡◌, refl, ℕ, Bool, true, false, ◌&&◌, cond, List, [], ◌∷◌, ◌++◌, Some, None}
use Rattle.std.specs.List.{find}
use Rattle.std.specs.Option.{option_map_or, option_or}
use Rattle.std.proofs.Common.{sym, ap, ◌∙◌}
use Rattle.std.proofs.lemmas.List.Folds.{find-append}
use Rattle.sg_kinds.specs.InView.{in_view}
use Rattle.sg_kinds.specs.Places.{Place, places_in, sub}
use Rattle.sg_kinds.specs.Terms.{Term}
use Rattle.sg_kinds.specs.Values.{Bytes}
use Rattle.sg_kinds.specs.declared.spec.Spec.{Spec}
use Rattle.sg_forest.specs.declared.node_id.NodeId.{NodeId}
use Rattle.sg_forest.specs.Trees.{IsLive}
use Rattle.sg_groves.specs.Grove.{Grove, nodes, IsGrove, spec_shown}
use Rattle.sg_groves.specs.Holds.{IsPlaced}
use Rattle.sg_groves.proofs.Held.{part_held, stands_node}
use Rattle.sg_select.specs.Around.{when, inside, part, after}
use Rattle.sg_select.specs.RestingPlaces.{behind, child_place, is_shown, rests, rests_under, resting}
use Rattle.sg_select.proofs.Climbing.{Knows}
use Rattle.sg_select.proofs.Neighbours.{behind_is}
use Rattle.sg_search.specs.Found.{applies_at, applies_to, found_behind}
use Rattle.sg_search.specs.Heads.{IsSought}
use Rattle.sg_search.specs.declared.heads.Sought.{Sought}
use Rattle.sg_search.proofs.Behind.{behind_filter, find_filter}

-- the first in two lists
pub find_left : (test : Place → Bool) (us vs : List Place) (v : Place) → find test us ≡ Some v → find test (us ++ vs) ≡ Some v
find_left test us vs v at = find-append test us vs ∙ ap (λ o. option_or o (find test vs)) at

pub find_right : (test : Place → Bool) (us vs : List Place) → find test us ≡ None → find test (us ++ vs) ≡ find test vs
find_right test us vs none = find-append test us vs ∙ ap (λ o. option_or o (find test vs)) none

-- what is found behind a resting place is found inside it or after it
pub found_around : (spec : Spec) (v : ℕ) (name : Bytes) (t x : Term) (u : Place) → sub t u ≡ Some x → rests (in_view spec v) t u ≡ true
    → found_behind spec v name t u ≡ find (applies_at spec name t) (inside (in_view spec v) u x ++ after (in_view spec v) t u)
found_around spec v name t x u at rest =
    find_filter (rests (in_view spec v) t) (applies_at spec name t) (behind u (places_in t))
    ∙ ap (find (applies_at spec name t)) (sym (behind_filter (rests (in_view spec v) t) u rest (places_in t)) ∙ behind_is (in_view spec v) t u x at rest)

-- a child that is shown is found itself, or what is found inside it
pub found_part : (spec shown : Spec) (name : Bytes) (t x y : Term) (u : Place) (k : ℕ) → sub t (k ∷ u) ≡ Some y → is_shown (child_place shown x k) ≡ true
    → find (applies_at spec name t) (part shown u x k y)
    ≡ cond (applies_to spec name y && rests_under shown x k y) (Some (k ∷ u)) (find (applies_at spec name t) (inside shown (k ∷ u) y))
found_part spec shown name t x y u k at shows =
    ap (λ b. find (applies_at spec name t) (when b (when (rests_under shown x k y) ((k ∷ u) ∷ []) ++ inside shown (k ∷ u) y))) shows
    ∙ by (rests_under shown x k y) (applies_to spec name y) (ap (λ o. option_map_or (applies_to spec name) o false) at)
  where
    by : (r a : Bool) → applies_at spec name t (k ∷ u) ≡ a
        → find (applies_at spec name t) (when r ((k ∷ u) ∷ []) ++ inside shown (k ∷ u) y) ≡ cond (a && r) (Some (k ∷ u)) (find (applies_at spec name t) (inside shown (k ∷ u) y))
    by true true on = ap (λ b. cond b (Some (k ∷ u)) (find (applies_at spec name t) (inside shown (k ∷ u) y))) on
    by true false off = ap (λ b. cond b (Some (k ∷ u)) (find (applies_at spec name t) (inside shown (k ∷ u) y))) off
    by false true on = refl
    by false false off = refl

-- what a walk up from a place knows: as much is found after it as after the place where the walk is
abbrev pub IsFoundAlike : Grove → Sought → Knows
IsFoundAlike g sought root t u w = (name : Bytes) → IsSought g.spec name sought
    → find (applies_at g.spec name t) (after (spec_shown g) t u) ≡ find (applies_at g.spec name t) (after (spec_shown g) t w)

pub placed_live : (g : Grove) → IsGrove g → (root : NodeId) (t : Term) (u : Place) (n : NodeId) → IsPlaced g root t u n → IsLive (nodes g) n
placed_live g is root t u n placed =
    let part = part_held g is u n root t placed.way placed.holds in
    let there = stands_node g part.1.tree n part.1.stands in
    record { node = there.0; found = there.1 }
