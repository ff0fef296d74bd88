use Rattle.std.proofs.Common.{drop}
use Rattle.sg_build.proofs.Steps.{IsUndone}
use Rattle.sg_build.proofs.built.undo.Given as goal

abbrev pub invariant-loop-n : goal.invariant-loop-n
invariant-loop-n l = IsUndone l.initial.terms l.terms l.roots (drop l.n-index l.roots)
