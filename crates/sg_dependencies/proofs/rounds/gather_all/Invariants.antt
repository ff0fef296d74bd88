use Rattle.sg_dependencies.proofs.Gathers.{GatheredUpto}
use Rattle.sg_dependencies.proofs.rounds.gather_all.Given as goal

abbrev pub invariant-loop-spot : goal.invariant-loop-spot
invariant-loop-spot l = GatheredUpto l.spots l.closed l.fn.phyla l.phyla l.gained l.spot-index
