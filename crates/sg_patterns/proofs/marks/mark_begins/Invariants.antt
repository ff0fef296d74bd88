use Rattle.std.proofs.Common.{◌≡◌, ℕ, ◌<◌, ◌≤◌, length}
use Rattle.sg_patterns.specs.Marks.{begin_value}
use Rattle.sg_patterns.specs.Flags.{flag_at}
use Rattle.sg_patterns.proofs.marks.mark_begins.Given as goal

abbrev pub invariant-loop-k : goal.invariant-loop-k
invariant-loop-k l = (l.k ≤ length l.program.above.items) × ((j : ℕ) → l.k ≤ j → j < length l.program.above.items → flag_at l.begins j ≡ begin_value l.program l.starts l.finals l.begins j)

abbrev pub decreases-loop-k : goal.decreases-loop-k
decreases-loop-k l = l.k
