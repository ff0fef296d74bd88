use Rattle.std.proofs.Common.{◌≡◌, take}
use Rattle.std.specs.Prelude.{filter}
use Rattle.sg_equations.specs.Complete.{is_same_target}
use Rattle.sg_missing.proofs.firsts.those_of.Given as goal

abbrev pub invariant-loop-equation : goal.invariant-loop-equation
invariant-loop-equation l = l.found.items ≡ filter (is_same_target l.one) (take l.equation-index l.defined)
