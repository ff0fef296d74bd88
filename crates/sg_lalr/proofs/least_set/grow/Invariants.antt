use Rattle.sg_lalr.proofs.LeastLemmas.{Grew}
use Rattle.sg_lalr.proofs.least_set.grow.Given as goal

abbrev pub invariant-loop-rule : goal.invariant-loop-rule
invariant-loop-rule l = Grew l.rules l.initial.set l.set l.rule-index l.grown
