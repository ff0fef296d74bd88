use Rattle.std.proofs.Common.{◌≡◌, take}
use Rattle.sg_kinds.proofs.copy.RowTryCopy.try_copy.Given as goal

abbrev pub invariant-loop-item : goal.invariant-loop-item
invariant-loop-item o l = l.copies.items ≡ take l.item-index l.item-items
