use Rattle.std.proofs.Common.{◌≡◌}
use Rattle.std.specs.Prelude.{flat_map}
use Rattle.sg_kinds.specs.Instances.{below}
use Rattle.sg_missing.specs.Lacks.{lacking_at}
use Rattle.sg_missing.proofs.lacks.lacking.Given as goal

abbrev pub invariant-loop-at : goal.invariant-loop-at
invariant-loop-at l = l.lacking.items ≡ flat_map (lacking_at l.names l.defined l.op) (below l.at)
