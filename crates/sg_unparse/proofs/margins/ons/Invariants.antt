use Rattle.std.proofs.Common.{◌≡◌, min, ◌-◌, ◌^◌, take}
use Rattle.sg_kinds.specs.InView.{in_view}
use Rattle.sg_unparse.specs.Margins.{ons_of_operators}
use Rattle.sg_unparse.proofs.margins.ons.Given as goal

abbrev pub invariant-loop-place : goal.invariant-loop-place
invariant-loop-place l = l.total ≡ min (ons_of_operators (take l.place (in_view l.spec l.view).ops)) (2 ^ 64 - 1)
