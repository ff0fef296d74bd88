-- One turn of the walk that drops a tree, at a slab.
use Rattle.std.proofs.Common.{◌≡◌, ◌≢◌, ◌<◌, ◌+◌, ◌-◌, ℕ, length, take, Option, Some, None, sym, ◌∙◌, arith}
use Rattle.std.specs.List.{slice_get}
use Rattle.slab.specs.Slab.{Slab, get, ContainsKey, slab_len}
use Rattle.sg_forest.specs.declared.node_id.NodeId.{NodeId}
use Rattle.sg_forest.specs.Node.{Node}
use Rattle.sg_forest.specs.Trees.{node_in, IsChild, Lists}
use Rattle.sg_forest.proofs.Paths.{parent_differs, parent_is_live, child_has_root}
use Rattle.sg_forest.proofs.Depth.{depth_in, depth_in-child, depth_in-path}
use Rattle.sg_forest.proofs.Unhung.{IsUnhung}
use Rattle.sg_forest.proofs.Dropping.{IsDropping, IsDropping-up, HasRoot-up, linked_now}
use Rattle.sg_forest.proofs.Slots.{contains_key, leaf_of, others_by_id, IsUnhung-steps}

-- a step down goes deeper
module _ {L D : Type 0} (s : Slab (Node L D)) (old : NodeId → Option (Node L D)) (root at : NodeId) (dropping : IsDropping old (node_in s) root at)
    (x : Node L D) (kid : NodeId) (found : get s at.key ≡ Some x) (last : Some kid ≡ slice_get x.kids (length x.kids - 1)) where
  pub falls_down : slab_len s + slab_len s - depth_in s kid < slab_len s + slab_len s - depth_in s at
  falls_down =
      let linked = dropping.linked in
      let lists : Lists (node_in s) at (length x.kids - 1) kid = record { node = x; found = found; lists = sym last } in
      let deeper = depth_in-child s linked kid at (length x.kids - 1) (linked.down at (length x.kids - 1) kid lists) in
      omega (arith, deeper.0, deeper.1)

-- a step up takes out the node that it leaves
module _ {L D : Type 0} (s t : Slab (Node L D)) (old : NodeId → Option (Node L D)) (root at p : NodeId) (k : ℕ) (dropping : IsDropping old (node_in s) root at)
    (x : Node L D) (found : get s at.key ≡ Some x) (none : None ≡ slice_get x.kids (length x.kids - 1))
    (up : (y : Node L D) → get s at.key ≡ Some y → Some (p, k) ≡ y.up)
    (gone : get t at.key ≡ None) (others : (m : ℕ) → m ≢ at.key → get t m ≡ get s m) where
  child : IsChild (node_in s) at p k
  child = record { node = x; found = found; hangs = sym (up x found) }

  differs : p ≢ at
  differs = parent_differs (node_in s) at p k (child_has_root (node_in s) dropping.linked at p k child) child

  pub parent_is_there : ContainsKey t p.key
  parent_is_there =
      let live = parent_is_live (node_in s) dropping.linked at p k child in
      contains_key t p (record { node = live.node; found = others_by_id s t at others p differs ∙ live.found })

  module _ (u : Slab (Node L D)) (written : (y : Node L D) → get t p.key ≡ Some y → get u p.key ≡ Some (record y { kids = take (length y.kids - 1) y.kids }))
      (rest : (m : ℕ) → m ≢ p.key → get u m ≡ get t m) where
    unhung : IsUnhung (node_in s) (node_in u) at p
    unhung = IsUnhung-steps s t at others u p gone differs written rest

    pub IsDropping-turn : IsDropping old (node_in u) root p
    IsDropping-turn = IsDropping-up old root (node_in s) at dropping (node_in u) p k (leaf_of s at x found none) child unhung

    pub falls_up : slab_len u + 1 ≡ slab_len s → slab_len u + slab_len u - depth_in u p < slab_len s + slab_len s - depth_in s at
    falls_up fewer =
        let above = parent_is_live (node_in s) dropping.linked at p k child in
        let has = dropping.linked.rooted p above in
        let still = HasRoot-up old root (node_in s) at dropping (node_in u) p k (leaf_of s at x found none) child unhung has in
        let linked = linked_now old root (node_in s) at dropping (node_in u) p k (leaf_of s at x found none) child unhung in
        let now = written above.node (others_by_id s t at others p differs ∙ above.found) in
        let before = depth_in-path s dropping.linked has.path p has.root has.is_root above has.climbs in
        let after = depth_in-path u linked has.path p has.root still.0 (record { node = record above.node { kids = take (length above.node.kids - 1) above.node.kids }; found = now }) still.1 in
        let deeper = depth_in-child s dropping.linked at p k child in
        omega (arith, fewer, before.0, after.0, deeper.0, deeper.1)
