use Rattle.std.proofs.Common.{◌≡◌, drop}
use Rattle.sg_kinds.specs.Pieces.{pieces_of}
use Rattle.sg_views.specs.PiecesView.{meant}
use Rattle.sg_views.proofs.pieces.pieces.Given as goal

abbrev pub invariant-loop-byte : goal.invariant-loop-byte
invariant-loop-byte l = meant l.writing (drop l.byte-index l.bytes) ≡ pieces_of l.bytes
