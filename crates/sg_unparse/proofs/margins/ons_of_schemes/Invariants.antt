use Rattle.std.proofs.Common.{◌≡◌, min, ◌-◌, ◌^◌, take}
use Rattle.sg_unparse.specs.Margins.{ons_of_schemes}
use Rattle.sg_unparse.proofs.margins.ons_of_schemes.Given as goal

abbrev pub invariant-loop-scheme : goal.invariant-loop-scheme
invariant-loop-scheme l = l.total ≡ min (ons_of_schemes (take l.scheme-index l.schemes)) (2 ^ 64 - 1)
