use Rattle.std.proofs.Common.{◌≡◌, ◌++◌, drop}
use Rattle.std.specs.Prelude.{flat_map}
use Rattle.sg_useless.specs.Uses.{occurring}
use Rattle.sg_useless.proofs.uses.add_occurrences.Given as goal

abbrev pub invariant-loop-o : goal.invariant-loop-o
invariant-loop-o l = l.uses.items ++ flat_map (occurring l.spec l.op) (drop l.o-index l.args) ≡ l.initial.uses.items ++ flat_map (occurring l.spec l.op) l.args
