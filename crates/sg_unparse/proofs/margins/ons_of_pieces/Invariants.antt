use Rattle.std.proofs.Common.{◌≡◌, min, ◌-◌, ◌^◌, take}
use Rattle.sg_unparse.specs.Margins.{ons_of_pieces}
use Rattle.sg_unparse.proofs.margins.ons_of_pieces.Given as goal

abbrev pub invariant-loop-piece : goal.invariant-loop-piece
invariant-loop-piece l = l.total ≡ min (ons_of_pieces (take l.piece-index l.pieces)) (2 ^ 64 - 1)
