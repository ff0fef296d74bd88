use Rattle.std.proofs.Common.{◌≡◌, take}
use Rattle.sg_select.proofs.paths.shared.Given as goal

abbrev pub invariant-loop-i : goal.invariant-loop-i
invariant-loop-i l = take l.i l.path ≡ take l.i l.way
