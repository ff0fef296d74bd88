use Rattle.std.proofs.Common.{◌≡◌, take}
use Rattle.sg_kinds.specs.Places.{Place}
use Rattle.sg_forest.specs.declared.node_id.NodeId.{NodeId}
use Rattle.sg_unparse.specs.Cells.{as_they_are}
use Rattle.sg_unparse.specs.Written.{Wrote}
use Rattle.sg_unparse.proofs.writer.Writer.bytes_cut.Given as goal

abbrev pub invariant-loop-b : goal.invariant-loop-b
invariant-loop-b l = (at : Place → NodeId) (u : Place) → at u ≡ l.owner → Wrote at l.initial.self l.self (as_they_are u (take l.b-index l.text))
