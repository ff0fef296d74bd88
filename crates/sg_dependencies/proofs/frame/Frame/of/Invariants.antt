use Rattle.sg_dependencies.proofs.Framed.{Framed}
use Rattle.sg_dependencies.proofs.frame.Frame.of.Given as goal

abbrev pub invariant-loop-arg : goal.invariant-loop-arg
invariant-loop-arg l = Framed l.rules l.op l.arg-index l.spots.items l.next
