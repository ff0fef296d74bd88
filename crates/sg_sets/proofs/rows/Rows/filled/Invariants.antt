use Rattle.std.proofs.Common.{ℕ, ◌<◌}
use Rattle.sg_sets.specs.Flags.{IsFresh}
use Rattle.sg_sets.specs.Rows.{Holds}
use Rattle.sg_sets.proofs.rows.Rows.filled.Given as goal

abbrev pub invariant-loop-a : goal.invariant-loop-a
invariant-loop-a l = (x y : ℕ) → x < l.a → Holds l.self.rows x y → IsFresh l.filled x
