use Rattle.std.proofs.Common.{◌-◌, ℕ, ◌<◌, ◌≤◌}
use Rattle.sg_sets.specs.Members.{Has}
use Rattle.sg_sets.proofs.bit_set.BitSet.next.Given as goal

abbrev pub invariant-loop-at : goal.invariant-loop-at
invariant-loop-at l = record {
  behind : l.from ≤ l.at;
  none : (a : ℕ) → l.from ≤ a → a < l.at → ¬ (Has l.self a);
}

abbrev pub decreases-loop-at : goal.decreases-loop-at
decreases-loop-at l = l.self-inside.width - l.at
