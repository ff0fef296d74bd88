use Rattle.std.proofs.Common.{◌≡◌, ◌++◌}
use Rattle.sg_missing.specs.Lacks.{lacking_below}
use Rattle.sg_missing.proofs.lacks.add_lacking.Given as goal

abbrev pub invariant-loop-slot : goal.invariant-loop-slot
invariant-loop-slot l = l.lacking.items ≡ l.initial.lacking.items ++ lacking_below l.names l.defined l.op l.at l.slot
