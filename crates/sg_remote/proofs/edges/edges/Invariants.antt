use Rattle.std.proofs.Common.{◌≡◌, ◌++◌, drop}
use Rattle.sg_remote.specs.Bearing.{edges}
use Rattle.sg_remote.proofs.edges.edges.Given as goal

abbrev pub invariant-loop-operator : goal.invariant-loop-operator
invariant-loop-operator l = l.edges.items ++ edges l.up l.list (drop l.operator-index l.ops) ≡ edges l.up l.list l.ops
