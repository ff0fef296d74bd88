use Rattle.std.proofs.Common.{◌≡◌, ◌-◌, ◌^◌, min}
use Rattle.std.specs.FinMap as finmap
use Rattle.sg_kinds.specs.Places.{Place, put}
use Rattle.sg_kinds.specs.Terms.{Term, height_of}
use Rattle.sg_forest.specs.declared.node_id.NodeId.{NodeId}
use Rattle.sg_forest.specs.Trees.{IsLive, room_below}
use Rattle.sg_groves.specs.Grove.{nodes}
use Rattle.sg_groves.specs.Holds.{IsPlaced}
use Rattle.sg_build.proofs.replaced.depth_over.Given as goal

abbrev pub invariant-loop-above : goal.invariant-loop-above
invariant-loop-above l = record {
  live : IsLive (nodes l.terms) l.top;
  left : (root : NodeId) (whole s : Term) (u : Place) → IsPlaced l.terms root whole u l.fn.at → l.fn.below ≡ min (height_of s) (2 ^ 64 - 1) →
      (v : Place) × (r : Term) × IsPlaced l.terms root whole v l.top × (l.depth ≡ min (height_of r) (2 ^ 64 - 1)) × (put whole u s ≡ put whole v r);
}

abbrev pub decreases-loop-above : goal.decreases-loop-above
decreases-loop-above l = finmap.len l.terms.trees.nodes - room_below l.terms.trees l.top
