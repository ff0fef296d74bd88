-- The places of nodes in the terms that roots hold.
use Rattle.std.specs.Prelude.{◌≡◌, ℕ, ◌∷◌}
use Rattle.std.proofs.Common.{subst}
use Rattle.sg_kinds.specs.Terms.{Term}
use Rattle.sg_kinds.specs.Places.{Place}
use Rattle.sg_kinds.specs.Nets.{Reference}
use Rattle.sg_forest.specs.declared.node_id.NodeId.{NodeId}
use Rattle.sg_forest.specs.Trees.{IsLive, IsChild, Climbs}
use Rattle.sg_groves.specs.Grove.{Grove, nodes, IsGrove}
use Rattle.sg_groves.specs.Holds.{Holds, IsPlaced}
use Rattle.sg_groves.specs.Unchanged.{OnlyStored}
use Rattle.sg_groves.proofs.Frames.{only_climbs, only_climbed, only_root, only_was_root, only_holds, only_held}
use Rattle.sg_groves.proofs.Held.{one_term, live_holds}
use Rattle.sg_groves.proofs.Ways.{one_way}
use Rattle.sg_attrib.specs.Visited.{IsSlotOf}

abbrev pub Slots : Type 1
Slots = NodeId → ℕ → Type 0

abbrev pub Sets : Type 1
Sets = Term → Place → Reference Place → Type 0

-- a node stands at one place
module _ (g : Grove) (is : IsGrove g) where
  -- a live node has one
  pub record HasPlace (n : NodeId) : Type 0 where
    pub root : NodeId
    pub term : Term
    pub place : Place
    pub placed : IsPlaced g root term place n

  pub has_place : (n : NodeId) → IsLive (nodes g) n → HasPlace n
  has_place n live =
      let top = is.forest.linked.rooted n live in
      let root = top.is_root in
      let held = live_holds g is top.root (record { node = root.node; found = root.found }) in
      record { root = top.root; term = held.0; place = top.path; placed = record { top = root; holds = held.1; way = top.climbs } }

  pub one_place : (n root other : NodeId) (t s : Term) (u v : Place) → IsPlaced g root t u n → IsPlaced g other s v n → (u ≡ v) × (root ≡ other) × (t ≡ s)
  one_place n root other t s u v one two =
      let ways = one_way g is u v n root other one.top two.top one.way two.way in
      (ways.0, ways.1, one_term g other t s (subst (λ r. Holds g r t) ways.1 one.holds) two.holds)

  -- what is of the node's term at the node's place
  pub of_slot : (refs : Sets) (n root : NodeId) (t : Term) (u v : Place) (m : NodeId) (slot : ℕ) → IsPlaced g root t u n → Climbs (nodes g) v m root
      → IsSlotOf refs g n m slot → refs t u (record { node = v; slot = slot })
  of_slot refs n root t u v m slot placed climbs s =
      let same = one_place n s.root root s.term t s.place u s.placed placed in
      let way = one_way g is s.way v m s.root root s.placed.top placed.top s.climbs climbs in
      subst (λ w. refs t u (record { node = w; slot = slot })) way.0
      (subst (λ w. refs t w (record { node = s.way; slot = slot })) same.0
      (subst (λ x. refs x s.place (record { node = s.way; slot = slot })) same.2 s.of_refs))

  -- a child stands below its parent
  pub kid_placed : (n c root : NodeId) (k : ℕ) (t : Term) (u : Place) → IsChild (nodes g) c n k → IsPlaced g root t u n → IsPlaced g root t (k ∷ u) c
  kid_placed n c root k t u hangs placed = record { top = placed.top; holds = placed.holds; way = (n, hangs, placed.way) }

-- where only stored values change each node keeps its place
module _ (old new : Grove) (changed : Slots) (only : OnlyStored old new changed) (is : IsGrove old) where
  pub placed_still : (n root : NodeId) (t : Term) (u : Place) → IsPlaced old root t u n → IsPlaced new root t u n
  placed_still n root t u placed = record {
    top = only_root old new changed only root placed.top;
    holds = only_holds old new changed only is root t placed.holds;
    way = only_climbs old new changed only u n root placed.way;
  }

  pub placed_before : (n root : NodeId) (t : Term) (u : Place) → IsPlaced new root t u n → IsPlaced old root t u n
  placed_before n root t u placed = record {
    top = only_was_root old new changed only root placed.top;
    holds = only_held old new changed only is root t placed.holds;
    way = only_climbed old new changed only u n root placed.way;
  }

  pub slot_before : (refs more : Sets) (n m : NodeId) (slot : ℕ)
      → ((root : NodeId) (t : Term) (u : Place) → IsPlaced old root t u n → (a : Reference Place) → refs t u a → more t u a)
      → IsSlotOf refs new n m slot → IsSlotOf more old n m slot
  slot_before refs more n m slot within s =
      let placed = placed_before n s.root s.term s.place s.placed in
      record {
        root = s.root;
        term = s.term;
        place = s.place;
        placed = placed;
        way = s.way;
        climbs = only_climbed old new changed only s.way m s.root s.climbs;
        of_refs = within s.root s.term s.place placed (record { node = s.way; slot = slot }) s.of_refs;
      }
