use Rattle.std.proofs.Common.{◌-◌}
use Rattle.std.specs.FinMap as finmap
use Rattle.sg_forest.specs.Trees.{IsLive, room_below}
use Rattle.sg_groves.specs.Grove.{nodes}
use Rattle.std.specs.Prelude.{IfSome}
use Rattle.sg_select.proofs.Climbing.{Walks}
use Rattle.sg_select.proofs.Settling.{Meets}
use Rattle.sg_select.proofs.moves.settle_below.Given as goal

abbrev pub invariant-loop-above : goal.invariant-loop-above
invariant-loop-above l = record {
  live : IsLive (nodes l.terms) l.at;
  kept : IfSome l.nearest (IsLive (nodes l.terms));
  walks : Walks l.terms l.fn.n l.at (Meets l.terms l.nearest l.met l.fn.reached);
}

abbrev pub decreases-loop-above : goal.decreases-loop-above
decreases-loop-above l = finmap.len l.terms.trees.nodes - room_below l.terms.trees l.at
