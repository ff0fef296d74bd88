use Rattle.sg_dependencies.proofs.Spreads.{SpreadUpto}
use Rattle.sg_dependencies.proofs.rounds.spread_all.Given as goal

abbrev pub invariant-loop-spot : goal.invariant-loop-spot
invariant-loop-spot l = SpreadUpto l.spots l.phyla l.fn.relation l.relation l.spot-index
