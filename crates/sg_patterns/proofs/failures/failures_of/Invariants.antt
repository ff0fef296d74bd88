use Rattle.std.proofs.Common.{take}
use Rattle.sg_kinds.specs.Values.{Bytes}
use Rattle.sg_patterns.specs.Spent.{HaveFailures}
use Rattle.sg_patterns.proofs.failures.failures_of.Given as goal

abbrev pub invariant-loop-program : goal.invariant-loop-program
invariant-loop-program l = (text : Bytes) → HaveFailures (take l.program-index l.programs) text l.all.items
