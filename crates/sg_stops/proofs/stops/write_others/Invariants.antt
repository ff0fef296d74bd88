use Rattle.std.proofs.Common.{◌≡◌, ◌++◌, take}
use Rattle.std.specs.Prelude.{flat_map}
use Rattle.sg_stops.specs.Stops.{or_piece}
use Rattle.sg_stops.proofs.stops.write_others.Given as goal

abbrev pub invariant-loop-piece : goal.invariant-loop-piece
invariant-loop-piece l = l.out.items ≡ l.initial.out.items ++ flat_map or_piece (take l.piece-index l.pieces)
