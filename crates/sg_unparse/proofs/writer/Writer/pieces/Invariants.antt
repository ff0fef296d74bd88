use Rattle.std.proofs.Common.{◌≡◌, take}
use Rattle.sg_kinds.specs.Places.{Place}
use Rattle.sg_forest.specs.declared.node_id.NodeId.{NodeId}
use Rattle.sg_unparse.specs.Cells.{pieces}
use Rattle.sg_unparse.specs.Written.{Wrote}
use Rattle.sg_unparse.proofs.writer.Writer.pieces.Given as goal

abbrev pub invariant-loop-piece : goal.invariant-loop-piece
invariant-loop-piece l = (at : Place → NodeId) (u : Place) → at u ≡ l.owner → Wrote at l.initial.self l.self (pieces u (take l.piece-index l.pieces))
