use Rattle.sg_dependencies.proofs.RoundSteps.{RoundTo}
use Rattle.sg_dependencies.proofs.rounds.round.Given as goal

abbrev pub invariant-loop-p : goal.invariant-loop-p
invariant-loop-p l = RoundTo l.frames l.fn.operators l.fn.phyla l.operators l.phyla l.waiting l.gained l.p
