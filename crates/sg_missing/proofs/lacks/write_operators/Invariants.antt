use Rattle.std.proofs.Common.{◌≡◌, ◌++◌}
use Rattle.std.specs.Prelude.{flat_map}
use Rattle.sg_kinds.specs.Instances.{below}
use Rattle.sg_missing.specs.Lacks.{lacks_of}
use Rattle.sg_missing.proofs.lacks.write_operators.Given as goal

abbrev pub invariant-loop-number : goal.invariant-loop-number
invariant-loop-number l = l.out.items ≡ l.initial.out.items ++ flat_map (lacks_of l.names l.defined) (below l.number)
