use Rattle.std.proofs.Common.{◌≡◌, ℕ, ◌<◌, false}
use Rattle.sg_patterns.specs.Flags.{flag_at}
use Rattle.sg_patterns.proofs.marks.clear.Given as goal

abbrev pub invariant-loop-k : goal.invariant-loop-k
invariant-loop-k l = (j : ℕ) → j < l.k → flag_at l.flags j ≡ false
