use Rattle.std.proofs.Common.{◌≡◌, ◌++◌, flat_map}
use Rattle.sg_kinds.specs.Instances.{below}
use Rattle.sg_remote.specs.Handing.{operator_rules}
use Rattle.sg_remote.proofs.rules.handing.Given as goal

abbrev pub invariant-loop-place : goal.invariant-loop-place
invariant-loop-place l = l.rules.items ≡ l.initial.rules.items ++ flat_map (operator_rules l.names l.expr) (below l.place)
