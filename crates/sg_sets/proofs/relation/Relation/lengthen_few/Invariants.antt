use Rattle.sg_sets.proofs.LengthenLemmas.{LengthenedTo}
use Rattle.sg_sets.proofs.relation.Relation.lengthen_few.Given as goal

abbrev pub invariant-loop-a : goal.invariant-loop-a
invariant-loop-a l = LengthenedTo l.fn.self l.self l.a l.grown
