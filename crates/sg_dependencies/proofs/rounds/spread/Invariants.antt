use Rattle.sg_dependencies.proofs.Spreads.{SpreadTo}
use Rattle.sg_dependencies.proofs.rounds.spread.Given as goal

abbrev pub invariant-loop-a : goal.invariant-loop-a
invariant-loop-a l = SpreadTo l.spot l.phylum l.fn.relation l.relation l.a
