use Rattle.std.proofs.Common.{◌≡◌, ◌≤◌, ◌+◌, ◌-◌}
use Rattle.slab.specs.Slab.{slab_len}
use Rattle.sg_forest.specs.Trees.{node_in}
use Rattle.sg_forest.proofs.Depth.{depth_in}
use Rattle.sg_forest.proofs.Dropping.{IsDropping}
use Rattle.sg_forest.proofs.nodes.remove_tree.Given as goal

abbrev pub invariant-walk : goal.invariant-walk
invariant-walk g l = record {
  dropping : IsDropping (node_in l.fn.nodes) (node_in l.nodes) l.fn.root l.at;
  capacity : l.nodes.capacity ≡ l.fn.nodes.capacity;
  len : slab_len l.nodes ≤ slab_len l.fn.nodes;
}

-- a step down goes deeper, and a step up takes a node away
abbrev pub decreases-walk : goal.decreases-walk
decreases-walk g l = slab_len l.nodes + slab_len l.nodes - depth_in l.nodes l.at
