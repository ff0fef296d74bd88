use Rattle.sg_dependencies.proofs.Gathers.{MetTo}
use Rattle.sg_dependencies.proofs.rounds.gather.Given as goal

abbrev pub invariant-loop-a : goal.invariant-loop-a
invariant-loop-a l = MetTo l.spot l.closed l.fn.phylum l.phylum l.gained l.a
