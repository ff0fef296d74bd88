use Rattle.sg_lalr.proofs.ClashLemmas.{Taking}
use Rattle.sg_lalr.proofs.conflict.least_clash.Given as goal

abbrev pub invariant-loop-m : goal.invariant-loop-m
invariant-loop-m l = Taking l.g l.nodes l.rows.rows l.from l.to l.taken l.best l.m
