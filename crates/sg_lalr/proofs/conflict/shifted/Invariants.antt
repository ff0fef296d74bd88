use Rattle.sg_lalr.proofs.ClashLemmas.{Shifted}
use Rattle.sg_lalr.proofs.conflict.shifted.Given as goal

abbrev pub invariant-loop-m : goal.invariant-loop-m
invariant-loop-m l = Shifted l.g l.nodes l.from l.initial.set l.set l.m
