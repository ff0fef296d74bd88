use Rattle.sg_propagate.proofs.Noted.{IsQuietBelow}
use Rattle.sg_propagate.proofs.rise.gives_other.Given as goal

abbrev pub invariant-loop-slot : goal.invariant-loop-slot
invariant-loop-slot l = IsQuietBelow l.plans l.terms l.n l.k l.work l.slot
