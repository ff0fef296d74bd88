use Rattle.sg_lalr.proofs.ReductionLemmas.{Reducing}
use Rattle.sg_lalr.proofs.reductions.reductions_of.Given as goal

abbrev pub invariant-loop-m : goal.invariant-loop-m
invariant-loop-m l = Reducing l.g l.nodes l.rows.rows l.from l.m l.found.items
