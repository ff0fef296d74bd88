use Rattle.std.proofs.Common.{ℕ, ◌<◌}
use Rattle.sg_sets.specs.Rows.{Holds}
use Rattle.sg_sets.proofs.relation.Relation.first_on_cycle.Given as goal

abbrev pub invariant-loop-v : goal.invariant-loop-v
invariant-loop-v l = (u : ℕ) → u < l.v → ¬ (Holds l.closed-inside.rows.rows u u)
