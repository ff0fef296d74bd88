use Rattle.std.proofs.Common.{◌≡◌, ◌≤◌, ◌^◌, drop}
use Rattle.std.specs.Prelude.{max}
use Rattle.sg_remote.specs.Reach.{past_edges}
use Rattle.sg_remote.proofs.reach.past_edges.Given as goal

abbrev pub invariant-loop-edge : goal.invariant-loop-edge
invariant-loop-edge l = (max l.most (past_edges (drop l.edge-index l.edges)) ≡ past_edges l.edges) × (l.most ≤ 2 ^ 32)
