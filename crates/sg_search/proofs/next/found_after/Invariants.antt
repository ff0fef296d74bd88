use Rattle.std.proofs.Common.{◌-◌}
use Rattle.std.specs.FinMap as finmap
use Rattle.sg_forest.specs.Trees.{IsLive, room_below}
use Rattle.sg_groves.specs.Grove.{nodes}
use Rattle.sg_select.proofs.Climbing.{Walks}
use Rattle.sg_search.proofs.Sought.{IsFoundAlike}
use Rattle.sg_search.proofs.next.found_after.Given as goal

-- nothing was found so far
abbrev pub invariant-loop-above : goal.invariant-loop-above
invariant-loop-above l = record {
  live : IsLive (nodes l.terms) l.at;
  walks : Walks l.terms l.fn.n l.at (IsFoundAlike l.terms l.sought);
}

abbrev pub decreases-loop-above : goal.decreases-loop-above
decreases-loop-above l = finmap.len l.terms.trees.nodes - room_below l.terms.trees l.at
