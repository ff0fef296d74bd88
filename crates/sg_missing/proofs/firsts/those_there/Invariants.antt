use Rattle.std.proofs.Common.{◌≡◌, take}
use Rattle.std.specs.Prelude.{filter}
use Rattle.sg_missing.specs.Firsts.{is_there}
use Rattle.sg_missing.proofs.firsts.those_there.Given as goal

abbrev pub invariant-loop-equation : goal.invariant-loop-equation
invariant-loop-equation l = l.found.items ≡ filter (is_there l.place) (take l.equation-index l.defined)
