use Rattle.std.proofs.Common.{◌≡◌, min, ◌-◌, ◌^◌, take}
use Rattle.sg_unparse.specs.Margins.{ons_of_items}
use Rattle.sg_unparse.proofs.margins.ons_of_items.Given as goal

abbrev pub invariant-loop-item : goal.invariant-loop-item
invariant-loop-item l = l.total ≡ min (ons_of_items (take l.item-index l.items)) (2 ^ 64 - 1)
