-- Fronts of places that a term has, and where places settle that it has not.
use Rattle.std.specs.Prelude.{◌≡◌, refl, ℕ, zero, suc, ◌+◌, ◌-◌, ◌<◌, ◌≤◌, Bool, true, false, cond, List, [], ◌∷◌, ◌++◌, length, take, drop, reverse, Option, Some, None, slice_get, option_map, option_and_then, unwrap_or}
use Rattle.std.specs.List.{find}
use Rattle.std.proofs.Common.{sym, ap, ◌∙◌, subst, arith, get_or}
use Rattle.std.proofs.lemmas.List.{length-drop, length-reverse, reverse-append, take-append-drop}
use Rattle.sg_kinds.proofs.Kids.{take_more}
use Rattle.sg_kinds.specs.Terms.{Term}
use Rattle.sg_kinds.specs.Places.{Place, child, place_of, sub}
use Rattle.sg_kinds.specs.declared.spec.Spec.{Spec}
use Rattle.sg_forest.specs.declared.node_id.NodeId.{NodeId}
use Rattle.sg_forest.specs.Trees.{Climbs, IsChild, IsLive, IsRoot}
use Rattle.sg_forest.proofs.Paths.{child_is_live, root_is_live}
use Rattle.sg_groves.specs.Grove.{Grove, nodes, IsGrove, spec_shown}
use Rattle.sg_groves.specs.Holds.{IsPlaced}
use Rattle.sg_select.proofs.Leading.{above_placed, top_placed}
use Rattle.sg_select.proofs.Within.{and_off}
use Rattle.sg_select.proofs.Firsts.{take_all}
use Rattle.sg_select.specs.Kept.{nearest}
use Rattle.sg_select.specs.Paths.{EndsAt, GoesTo, there}
use Rattle.sg_select.specs.RestingPlaces.{above, is_open, rests, rests_under, settled, stands_resting}

-- one step more along a path
pub front_more : (path : List ℕ) (i k : ℕ) → i < length path → k ≡ get_or path i k → place_of (take (i + 1) path) ≡ k ∷ place_of (take i path)
front_more path i k low at = ap reverse (take_more path i k low at) ∙ reverse-append (take i path) (k ∷ [])

pub front_all : (path : List ℕ) (i : ℕ) → length path ≤ i → place_of (take i path) ≡ place_of path
front_all path i long = ap reverse (take_all i path long)

-- the whole path behind a front and one step
pub front_rest : (path : List ℕ) (i k : ℕ) → i < length path → k ≡ get_or path i k → place_of path ≡ reverse (drop (i + 1) path) ++ k ∷ place_of (take i path)
front_rest path i k low at =
    ap reverse (sym (take-append-drop (i + 1) path)) ∙ reverse-append (take (i + 1) path) (drop (i + 1) path)
    ∙ ap (λ l. reverse (drop (i + 1) path) ++ l) (front_more path i k low at)

-- a front that two paths share is longer by a step that they share
pub shared_more : (path way : List ℕ) (i j k : ℕ) → i < length path → i < length way → j ≡ get_or path i j → k ≡ get_or way i k → j ≡ k → take i path ≡ take i way → take (i + 1) path ≡ take (i + 1) way
shared_more path way i j k low also at there same known =
    take_more path i j low at ∙ ap (λ l. l ++ j ∷ []) known ∙ ap (λ x. take i way ++ x ∷ []) same ∙ sym (take_more way i k also there)

-- a path parted at a front: the place of the rest, over that of the front
pub parted : (way : List ℕ) (front : ℕ) → place_of way ≡ place_of (drop front way) ++ place_of (take front way)
parted way front = ap reverse (sym (take-append-drop front way)) ∙ reverse-append (take front way) (drop front way)

pub low_long : (way : List ℕ) (front : ℕ) → length (place_of (drop front way)) ≡ length way - front
low_long way front = length-reverse (drop front way) ∙ length-drop front way

pub whole_path : (path way : List ℕ) (front : ℕ) → take front path ≡ take front way → place_of (drop front path) ++ place_of (take front way) ≡ place_of path
whole_path path way front same = ap (λ l. place_of (drop front path) ++ place_of l) (sym same) ∙ sym (parted path front)

-- steps up from a node: a place above it, and none where no step is left
module _ (g : Grove) (is : IsGrove g) (root : NodeId) (t : Term) (u : Place) (at : NodeId) where
  pub above_rest : (p : NodeId) (k steps i : ℕ) → i < steps → IsChild (nodes g) at p k → (rest : Place) × (length rest ≡ steps - i) × IsPlaced g root t (rest ++ u) at
      → (rest : Place) × (length rest ≡ steps - (i + 1)) × IsPlaced g root t (rest ++ u) p
  above_rest p k steps i low child ([], long, placed) = absurd (omega (arith, long, low))
  above_rest p k steps i low child (j ∷ rest, long, placed) =
      let up = above_placed g is root t (j ∷ (rest ++ u)) at p k placed child in
      (rest, omega (arith, long, low), subst (λ w. IsPlaced g root t w p) (sym (tail_is up.1)) up.2)
    where
      tail_is : {v w : Place} → j ∷ v ≡ k ∷ w → v ≡ w
      tail_is e = ap (drop 1) e

  pub no_rest : (steps i : ℕ) → steps ≤ i → (rest : Place) × (length rest ≡ steps - i) × IsPlaced g root t (rest ++ u) at → IsPlaced g root t u at
  no_rest steps i all ([], long, placed) = placed
  no_rest steps i all (j ∷ rest, long, placed) = absurd (omega (arith, long, all))

  pub rest_at_top : (steps i : ℕ) → i < steps → IsRoot (nodes g) at → (rest : Place) × (length rest ≡ steps - i) × IsPlaced g root t (rest ++ u) at → ⊥
  rest_at_top steps i low top ([], long, placed) = omega (arith, long, low)
  rest_at_top steps i low top (j ∷ rest, long, placed) = cons_not_nil (top_placed g is root t (j ∷ (rest ++ u)) at placed top)
    where
      cons_not_nil : {v : Place} → j ∷ v ≡ [] → ⊥
      cons_not_nil e = cc e

-- a node with a way up to a root is there
pub climber_live : (g : Grove) (u : Place) (n root : NodeId) → IsRoot (nodes g) root → Climbs (nodes g) u n root → IsLive (nodes g) n
climber_live g [] n root top same = subst (IsLive (nodes g)) (sym same) (root_is_live (nodes g) root top)
climber_live g (k ∷ u) n root top way = child_is_live (nodes g) n way.0 k way.1

-- below a place that is not there is none
pub none_below : (t : Term) (v w : Place) → sub t w ≡ None → sub t (v ++ w) ≡ None
none_below t [] w none = none
none_below t (j ∷ v) w none = ap (option_and_then (child j)) (none_below t v w none)

module _ (spec : Spec) (t : Term) where
  none_rests : (k : ℕ) (u : Place) → sub t (k ∷ u) ≡ None → rests spec t (k ∷ u) ≡ false
  none_rests k u none = and_off (is_open spec t (k ∷ u)) (stands_resting spec t k u) (by (sub t u))
    where
      by : (o : Option Term) → unwrap_or (option_and_then (λ x. option_map (rests_under spec x k) (sub t (k ∷ u))) o) false ≡ false
      by None = refl
      by (Some x) = ap (λ o. unwrap_or (option_map (rests_under spec x k) o) false) none

  none_nearest : (v : Place) (k : ℕ) (u : Place) → sub t (k ∷ u) ≡ None → nearest spec t (v ++ k ∷ u) ≡ nearest spec t u
  none_nearest [] k u none = ap (λ b. cond b (Some (k ∷ u)) (find (rests spec t) (above (k ∷ u)))) (none_rests k u none)
  none_nearest (j ∷ v) k u none =
      ap (λ b. cond b (Some (j ∷ (v ++ k ∷ u))) (nearest spec t (v ++ k ∷ u))) (none_rests j (v ++ k ∷ u) (none_below t (j ∷ v) (k ∷ u) none))
      ∙ none_nearest v k u none

  -- a place settles where the longest front of it does that is there
  pub settled_front : (u front : Place) → EndsAt t u front → settled spec t u ≡ settled spec t front
  settled_front u front e = ap (settled spec t) e.is ∙ ap (λ o. unwrap_or o []) (none_nearest e.rest e.next front e.none)

pub settled_deepest : (g : Grove) (root n : NodeId) (t : Term) (u : Place) (whole : Bool) → (went : GoesTo g root t u n whole) → settled (spec_shown g) t u ≡ settled (spec_shown g) t went.front
settled_deepest g root n t u true went = ap (settled (spec_shown g) t) (went.all refl)
settled_deepest g root n t u false went = settled_front (spec_shown g) t u went.front (went.ends refl)

pub there_is : (t s : Term) (u : Place) → sub t u ≡ Some s → there t u ≡ Some u
there_is t s u at = ap (option_map (λ _. u)) at

pub there_not : (t : Term) (u front : Place) → EndsAt t u front → there t u ≡ None
there_not t u front e = ap (option_map (λ _. u)) (ap (sub t) e.is ∙ none_below t e.rest (e.next ∷ front) e.none)

pub past_none : {A : Type 0} → (xs : List A) (k : ℕ) → length xs ≤ k → slice_get xs k ≡ None
past_none [] k long = refl
past_none (x ∷ xs) zero long = absurd (omega (arith, long))
past_none (x ∷ xs) (suc k) long = past_none xs k (omega (arith, long))
