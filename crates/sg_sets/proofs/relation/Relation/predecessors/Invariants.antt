use Rattle.std.proofs.Common.{◌≡◌, take}
use Rattle.sg_sets.specs.Relations.{predecessors}
use Rattle.sg_sets.proofs.relation.Relation.predecessors.Given as goal

abbrev pub invariant-loop-a : goal.invariant-loop-a
invariant-loop-a l = l.count ≡ predecessors (take l.a l.self) l.b
