use Rattle.sg_propagate.proofs.Tops.{IsTakingOver}
use Rattle.sg_propagate.proofs.start.take_over.Given as goal

abbrev pub invariant-loop-slot : goal.invariant-loop-slot
invariant-loop-slot l = IsTakingOver l.initial.terms l.terms l.top l.left l.slot
