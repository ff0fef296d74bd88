use Rattle.std.proofs.Common.{◌≡◌, take}
use Rattle.sg_mends.specs.Mends.{fitting_of}
use Rattle.sg_mends.proofs.reads.fitting.Given as goal

abbrev pub invariant-loop-piece : goal.invariant-loop-piece
invariant-loop-piece l = l.found.items ≡ fitting_of l.text l.from l.to (take l.piece-index l.pieces)
