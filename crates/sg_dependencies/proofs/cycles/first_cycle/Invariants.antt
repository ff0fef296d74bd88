use Rattle.std.proofs.Common.{ℕ, ◌<◌}
use Rattle.sg_sets.specs.Cycles.{HasNoCycle}
use Rattle.sg_sets.specs.Rows.{Holds}
use Rattle.sg_dependencies.specs.Induced.{relation_at}
use Rattle.sg_dependencies.proofs.cycles.first_cycle.Given as goal

abbrev pub invariant-loop-place : goal.invariant-loop-place
invariant-loop-place l = (p : ℕ) → p < l.place → HasNoCycle (Holds (relation_at l.relations p))
