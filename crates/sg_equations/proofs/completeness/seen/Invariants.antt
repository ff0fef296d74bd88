use Rattle.std.proofs.Common.{take}
use Rattle.sg_equations.specs.Keys.{AreSeen}
use Rattle.sg_equations.proofs.completeness.seen.Given as goal

abbrev pub invariant-loop-equation : goal.invariant-loop-equation
invariant-loop-equation l = AreSeen (take l.equation-index l.defined) l.seen
