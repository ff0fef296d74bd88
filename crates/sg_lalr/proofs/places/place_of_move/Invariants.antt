use Rattle.std.proofs.Common.{◌-◌, length}
use Rattle.sg_lalr.proofs.PlaceLemmas.{Halved, MoveBefore}
use Rattle.sg_lalr.proofs.places.place_of_move.Given as goal

abbrev pub invariant-halves : goal.invariant-halves
invariant-halves l = Halved (MoveBefore l.row l.x) 0 (length l.row) l.low l.high

abbrev pub decreases-halves : goal.decreases-halves
decreases-halves l = l.high - l.low
