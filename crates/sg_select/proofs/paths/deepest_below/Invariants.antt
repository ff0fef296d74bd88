use Rattle.std.proofs.Common.{take, ◌++◌}
use Rattle.sg_kinds.specs.Places.{Place, place_of}
use Rattle.sg_kinds.specs.Terms.{Term}
use Rattle.sg_forest.specs.declared.node_id.NodeId.{NodeId}
use Rattle.sg_forest.specs.Trees.{IsLive}
use Rattle.sg_groves.specs.Grove.{nodes}
use Rattle.sg_groves.specs.Holds.{IsPlaced}
use Rattle.sg_select.proofs.paths.deepest_below.Given as goal

abbrev pub invariant-loop-k : goal.invariant-loop-k
invariant-loop-k l = record {
  live : IsLive (nodes l.terms) l.at;
  placed : (root : NodeId) (t : Term) (u : Place) → IsPlaced l.terms root t u l.fn.n → IsPlaced l.terms root t (place_of (take l.k-index l.path) ++ u) l.at;
}
