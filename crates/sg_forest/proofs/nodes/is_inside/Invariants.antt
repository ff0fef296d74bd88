use Rattle.sg_forest.specs.Trees.{node_in, IsLive, IsInside}
use Rattle.sg_forest.proofs.Depth.{depth_in}
use Rattle.sg_forest.proofs.nodes.is_inside.Given as goal

abbrev pub invariant-climb : goal.invariant-climb
invariant-climb g l = record {
  live : IsLive (node_in l.nodes) l.at;
  up : IsInside (node_in l.nodes) l.fn.n l.at;
  on : IsInside (node_in l.nodes) l.fn.n l.top → IsInside (node_in l.nodes) l.at l.top;
}

abbrev pub decreases-climb : goal.decreases-climb
decreases-climb g l = depth_in l.nodes l.at
