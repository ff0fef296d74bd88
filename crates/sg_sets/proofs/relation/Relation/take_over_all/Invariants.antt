use Rattle.sg_sets.specs.Members.{missing_of}
use Rattle.sg_sets.proofs.ClosingLemmas.{Reached}
use Rattle.sg_sets.proofs.relation.Relation.take_over_all.Given as goal

abbrev pub invariant-loop-k : goal.invariant-loop-k
invariant-loop-k l = Reached l.fn.self l.self l.a l.passed

abbrev pub decreases-loop-k : goal.decreases-loop-k
decreases-loop-k l = missing_of l.passed
