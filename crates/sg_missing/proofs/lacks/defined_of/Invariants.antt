use Rattle.std.proofs.Common.{◌≡◌, take}
use Rattle.sg_missing.specs.Lacks.{defined_of}
use Rattle.sg_missing.proofs.lacks.defined_of.Given as goal

abbrev pub invariant-loop-equation : goal.invariant-loop-equation
invariant-loop-equation l = l.of.items ≡ defined_of (take l.equation-index l.defined) l.op
