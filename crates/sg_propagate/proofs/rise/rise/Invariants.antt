use Rattle.std.proofs.Common.{◌≡◌, ◌+◌, ◌-◌, ◌*◌, ◌^◌}
use Rattle.std.specs.FinMap as finmap
use Rattle.sg_eval.specs.Journal.{now_of, total_of}
use Rattle.sg_forest.specs.Trees.{room_below}
use Rattle.sg_propagate.proofs.Rises.{IsRisen}
use Rattle.sg_propagate.proofs.rise.rise.Given as goal

abbrev pub invariant-loop-above : goal.invariant-loop-above
invariant-loop-above l = record {
  risen : IsRisen l.plans l.top l.left l.fn.first l.at l.k l.initial.terms l.terms l.initial.work l.work l.initial.trail l.trail (now_of l.initial.journal) (now_of l.journal);
  total : total_of l.journal ≡ total_of l.initial.journal;
}

-- steps up, and visits of one node
abbrev pub decreases-loop-above : goal.decreases-loop-above
decreases-loop-above l = (finmap.len l.initial.terms.trees.nodes - room_below l.initial.terms.trees l.at) * (2 ^ 32 + 1) + (2 ^ 32 - l.k)
