use Rattle.std.proofs.Common.{◌≡◌, drop}
use Rattle.std.specs.List.{slice_get}
use Rattle.sg_unparse.specs.Unparsed.{child_places}
use Rattle.sg_select.proofs.schemes.place_in.Given as goal

-- what is left decides
abbrev pub invariant-loop-item : goal.invariant-loop-item
invariant-loop-item l = slice_get (child_places l.items) l.k ≡ slice_get (child_places (drop l.item-index l.items)) l.left
