-- Walks up from a node, and what each move knows on its way.
use Rattle.std.specs.Prelude.{◌≡◌, refl, ℕ, ◌+◌, ◌<◌, ◌≤◌, length, Bool, true, false, ◌&&◌, [], ◌∷◌, ◌++◌, drop, take, Option, Some, None, slice_get, option_map, unwrap_or}
use Rattle.std.specs.List.{last_or}
use Rattle.std.proofs.Common.{sym, ap, ◌∙◌, subst, arith}
use Rattle.std.proofs.lemmas.Option.{same_Some, slice_get_within}
use Rattle.sg_kinds.specs.Terms.{Term}
use Rattle.sg_kinds.specs.Places.{Place, sub}
use Rattle.sg_kinds.specs.declared.spec.Spec.{Spec}
use Rattle.sg_forest.specs.declared.node_id.NodeId.{NodeId}
use Rattle.sg_forest.specs.Node as forest
use Rattle.sg_forest.specs.Trees.{IsChild, IsLive, IsRoot}
use Rattle.sg_groves.specs.declared.kind.Kind.{Kind}
use Rattle.sg_groves.specs.declared.part.Part.{Part}
use Rattle.sg_groves.specs.Grove.{Grove, nodes, IsGrove}
use Rattle.sg_groves.specs.Holds.{Holds, IsPlaced}
use Rattle.sg_select.specs.RestingPlaces.{is_open, leads_on, rests}
use Rattle.sg_select.specs.Around.{when, kids, own, parts, earlier, later, before, after}
use Rattle.sg_select.proofs.Within.{and_off}
use Rattle.sg_select.proofs.Around.{reached_from}
use Rattle.sg_select.proofs.Firsts.{last_left, last_right, one_up}
use Rattle.sg_select.proofs.Leading.{sub_there, above_placed, top_placed, held}
use Rattle.sg_build.proofs.Told.{opened, the_term}
use Rattle.sg_kinds.proofs.Elementary.{slice_get-All, slice_get-there}
use Rattle.sg_kinds.specs.Specification.{args_of}
use Rattle.sg_kinds.specs.declared.spec.Operator.{Operator}
use Rattle.sg_terms.specs.Found.{op_at}
use Rattle.sg_select.proofs.Schemed.{leaf_arity}

-- what is known of the place where a walk began and of that where it is, in the tree of a root
abbrev pub Knows : Type 1
Knows = NodeId → Term → Place → Place → Type 0

pub record IsAt (g : Grove) (root : NodeId) (t : Term) (at : NodeId) (K : Place → Type 0) : Type 0 where
  pub place : Place
  pub placed : IsPlaced g root t place at
  pub known : K place

abbrev pub Walks : Grove → NodeId → NodeId → Knows → Type 0
Walks g n at K = (root : NodeId) (t : Term) (u : Place) → IsPlaced g root t u n → IsAt g root t at (K root t u)

pub walk_first : (g : Grove) (n : NodeId) (K : Knows) → ((root : NodeId) (t : Term) (u : Place) → IsPlaced g root t u n → K root t u u) → Walks g n n K
walk_first g n K known root t u placed = record { place = u; placed = placed; known = known root t u placed }

-- a step up, from a child with its term to its parent with its own
pub record IsStep (g : Grove) (root : NodeId) (t : Term) (k : ℕ) (w : Place) (p at : NodeId) (x y : Term) : Type 0 where
  pub placed : IsPlaced g root t w p
  pub below : IsPlaced g root t (k ∷ w) at
  pub holds : Holds g p x
  pub kid_holds : Holds g at y
  pub there : sub t w ≡ Some x
  pub kid_there : sub t (k ∷ w) ≡ Some y

-- the place above, and what was known below it
pub record IsUp (g : Grove) (root : NodeId) (t : Term) (k : ℕ) (p at : NodeId) (K : Place → Type 0) : Type 0 where
  pub place : Place
  pub step : IsStep g root t k place p at (the_term g p) (the_term g at)
  pub known : K (k ∷ place)

pub walk_step : (g : Grove) → IsGrove g → (n at p : NodeId) (k : ℕ) (K : Knows) → IsLive (nodes g) p → IsLive (nodes g) at → IsChild (nodes g) at p k
    → Walks g n at K → (root : NodeId) (t : Term) (u : Place) → IsPlaced g root t u n → IsUp g root t k p at (K root t u)
walk_step g is n at p k K live below child walks root t u placed =
    let here = walks root t u placed in
    let up = above_placed g is root t here.place at p k here.placed child in
    let lower = subst (λ z. IsPlaced g root t z at) up.1 here.placed in
    record {
      place = up.0;
      step = record {
        placed = up.2;
        below = lower;
        holds = held g is p live;
        kid_holds = held g is at below;
        there = sub_there g is root t (the_term g p) up.0 p up.2 (held g is p live);
        kid_there = sub_there g is root t (the_term g at) (k ∷ up.0) at lower (held g is at below);
      };
      known = subst (K root t u) up.1 here.known;
    }

pub walk_up : (g : Grove) → IsGrove g → (n at p : NodeId) (k : ℕ) (K L : Knows) → IsLive (nodes g) p → IsLive (nodes g) at → IsChild (nodes g) at p k
    → ((root : NodeId) (t : Term) (u w : Place) → IsStep g root t k w p at (the_term g p) (the_term g at) → K root t u (k ∷ w) → L root t u w)
    → Walks g n at K → Walks g n p L
walk_up g is n at p k K L live below child further walks root t u placed =
    let up = walk_step g is n at p k K live below child walks root t u placed in
    record { place = up.place; placed = up.step.placed; known = further root t u up.place up.step up.known }

pub walk_last : (g : Grove) → IsGrove g → (n at : NodeId) (K : Knows) → IsRoot (nodes g) at → Walks g n at K
    → (root : NodeId) (t : Term) (u : Place) → IsPlaced g root t u n → (at ≡ root) × K root t u []
walk_last g is n at K top walks root t u placed =
    let here = walks root t u placed in
    let none = top_placed g is root t here.place at here.placed top in
    ((subst (λ z. IsPlaced g root t z at) none here.placed).way, subst (K root t u) none here.known)

module _ (spec : Spec) where
  -- whether a place can be reached is that of the place of a walk
  abbrev pub IsReachedAlike : Knows
  IsReachedAlike root t u w = is_open spec t u ≡ is_open spec t w

  pub open_steps : (t : Term) (k : ℕ) (w : Place) (x : Term) → sub t w ≡ Some x → is_open spec t (k ∷ w) ≡ (is_open spec t w && leads_on spec x k)
  open_steps t k w x at = ap (λ o. is_open spec t w && unwrap_or (option_map (λ z. leads_on spec z k) o) false) at

  and_true : (a b : Bool) → b ≡ true → (a && b) ≡ a
  and_true true b is = is
  and_true false b is = refl

  pub alike_up : (root : NodeId) (t : Term) (u : Place) (k : ℕ) (w : Place) (x : Term) → sub t w ≡ Some x → leads_on spec x k ≡ true
      → IsReachedAlike root t u (k ∷ w) → IsReachedAlike root t u w
  alike_up root t u k w x at on same = same ∙ open_steps t k w x at ∙ and_true (is_open spec t w) (leads_on spec x k) on

  pub shut_at : (root : NodeId) (t : Term) (u : Place) (k : ℕ) (w : Place) (x : Term) → sub t w ≡ Some x → leads_on spec x k ≡ false
      → IsReachedAlike root t u (k ∷ w) → is_open spec t u ≡ false
  shut_at root t u k w x at off same = same ∙ open_steps t k w x at ∙ and_off (is_open spec t w) (leads_on spec x k) off

  -- what comes after a child, and before it
  pub after_step : (t : Term) (k : ℕ) (w : Place) (x : Term) → sub t w ≡ Some x → after spec t (k ∷ w) ≡ parts spec w x (k + 1) (drop (k + 1) (kids x)) ++ after spec t w
  after_step t k w x at =
      ap (λ o. later spec t k w o ++ after spec t w) at ∙ ap (λ j. parts spec w x j (drop j (kids x)) ++ after spec t w) (one_up k)

  pub before_step : (t : Term) (k : ℕ) (w : Place) (x : Term) → sub t w ≡ Some x → before spec t (k ∷ w) ≡ before spec t w ++ (own spec t w ++ parts spec w x 0 (take k (kids x)))
  before_step t k w x at = ap (λ o. before spec t w ++ (own spec t w ++ earlier spec t k w o)) at

  abbrev pub IsAfterAlike : Knows
  IsAfterAlike root t u w = slice_get (after spec t u) 0 ≡ slice_get (after spec t w) 0

  -- for a resting place: what is before it, and the way up
  pub record IsBeforeAlike (t : Term) (u w : Place) : Type 0 where
    pub way : is_open spec t w ≡ true
    pub last : last_or None (before spec t u) ≡ last_or None (before spec t w)

  abbrev pub KnowsBefore : Knows
  KnowsBefore root t u w = rests spec t u ≡ true → IsBeforeAlike t u w

  pub before_up : (t : Term) (u : Place) (k : ℕ) (w : Place) (x : Term) → sub t w ≡ Some x → last_or None (parts spec w x 0 (take k (kids x))) ≡ None → rests spec t w ≡ false
      → IsBeforeAlike t u (k ∷ w) → IsBeforeAlike t u w
  before_up t u k w x at none rest h = record {
    way = (reached_from spec t k w x at h.way).way;
    last = h.last ∙ ap (last_or None) (before_step t k w x at)
        ∙ ap (λ b. last_or None (before spec t w ++ (when b (w ∷ []) ++ parts spec w x 0 (take k (kids x))))) rest
        ∙ last_left (before spec t w) (parts spec w x 0 (take k (kids x))) none;
  }

  pub before_here : (t : Term) (u : Place) (k : ℕ) (w : Place) (x : Term) → sub t w ≡ Some x → last_or None (parts spec w x 0 (take k (kids x))) ≡ None → rests spec t w ≡ true
      → IsBeforeAlike t u (k ∷ w) → last_or None (before spec t u) ≡ Some w
  before_here t u k w x at none rest h =
      h.last ∙ ap (last_or None) (before_step t k w x at)
      ∙ ap (λ b. last_or None (before spec t w ++ (when b (w ∷ []) ++ parts spec w x 0 (take k (kids x))))) rest
      ∙ last_right (before spec t w) ((w ∷ []) ++ parts spec w x 0 (take k (kids x))) w (last_left (w ∷ []) (parts spec w x 0 (take k (kids x))) none)

  pub before_found : (t : Term) (u : Place) (k : ℕ) (w : Place) (x : Term) (v : Place) → sub t w ≡ Some x → last_or None (parts spec w x 0 (take k (kids x))) ≡ Some v
      → IsBeforeAlike t u (k ∷ w) → last_or None (before spec t u) ≡ Some v
  before_found t u k w x v at some h =
      h.last ∙ ap (last_or None) (before_step t k w x at)
      ∙ last_right (before spec t w) (own spec t w ++ parts spec w x 0 (take k (kids x))) v (last_right (own spec t w) (parts spec w x 0 (take k (kids x))) v some)

-- a child's number is below how many its parent has
pub child_low : (g : Grove) → IsGrove g → (n p : NodeId) (k : ℕ) → IsChild (nodes g) n p k → (x : forest.Node Kind Part) → nodes g p ≡ Some x → k < x.label.arity
child_low g is n p k child x found =
    let lists = is.forest.linked.upward p k n child in
    let same = same_Some lists.node x (sym lists.found ∙ found) in
    let long = is.forest.arities p x found in
    let low = slice_get_within x.kids k n (ap (λ z. slice_get z.kids k) (sym same) ∙ lists.lists) in
    omega (arith, long, low)

-- and below 16
pub child_few : (g : Grove) → IsGrove g → (n p : NodeId) (k : ℕ) → IsChild (nodes g) n p k → k < 16
child_few g is n p k child =
    let lists = is.forest.linked.upward p k n child in
    let low = child_low g is n p k child lists.node lists.found in
    by lists.node lists.found low (op_at g p) refl
  where
    args_few : (op : ℕ) (o : Operator) → slice_get g.spec.ops op ≡ Some o → length (args_of g.spec.ops op) ≤ 16
    args_few op o at = subst (λ (z : Option Operator). length (unwrap_or (option_map (λ (y : Operator). y.args) z) []) ≤ 16) (sym at)
        (slice_get-All (λ (y : Operator). length y.args ≤ 16) g.spec.ops op o is.sound.counted.args at)

    by : (x : forest.Node Kind Part) → nodes g p ≡ Some x → k < x.label.arity → (o : Option ℕ) → op_at g p ≡ o → k < 16
    by x found low None at = let none = leaf_arity g is p x found at in absurd (omega (arith, low, none))
    by x found low (Some op) at =
        let over = opened g is p op at in
        let there = slice_get-there g.spec.ops op over.within in
        let few = args_few op there.0 there.1 in
        let arity = over.arity x found in
        omega (arith, low, few, arity)
