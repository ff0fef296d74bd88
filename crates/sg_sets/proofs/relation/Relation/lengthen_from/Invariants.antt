use Rattle.std.proofs.Common.{◌-◌, length}
use Rattle.sg_sets.proofs.LengthenLemmas.{PassedTo}
use Rattle.sg_sets.proofs.relation.Relation.lengthen_from.Given as goal

abbrev pub invariant-loop-k : goal.invariant-loop-k
invariant-loop-k l = PassedTo l.fn.self l.self l.a l.from l.grown

abbrev pub decreases-loop-k : goal.decreases-loop-k
decreases-loop-k l = length l.self - l.from
