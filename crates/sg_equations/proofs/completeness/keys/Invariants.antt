use Rattle.std.proofs.Common.{◌≡◌, take, map}
use Rattle.sg_equations.specs.Keys.{key_of}
use Rattle.sg_equations.proofs.completeness.keys.Given as goal

abbrev pub invariant-loop-equation : goal.invariant-loop-equation
invariant-loop-equation l = l.keys.items ≡ map key_of (take l.equation-index l.defined)
