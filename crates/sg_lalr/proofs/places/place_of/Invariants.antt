use Rattle.std.proofs.Common.{◌-◌}
use Rattle.sg_lalr.proofs.PlaceLemmas.{Halved, NodeBefore}
use Rattle.sg_lalr.proofs.places.place_of.Given as goal

abbrev pub invariant-halves : goal.invariant-halves
invariant-halves l = Halved (NodeBefore l.nodes l.item) l.from l.to l.low l.high

abbrev pub decreases-halves : goal.decreases-halves
decreases-halves l = l.high - l.low
