use Rattle.std.specs.Bool.{OnFalse}
use Rattle.sg_patterns.specs.Marks.{HasFinalsTo, IsDead}
use Rattle.sg_patterns.proofs.marks.step.Given as goal

abbrev pub invariant-loop-k : goal.invariant-loop-k
invariant-loop-k l = HasFinalsTo l.program l.k l.byte l.begins l.finals × OnFalse l.alive (IsDead l.program l.k l.finals)
