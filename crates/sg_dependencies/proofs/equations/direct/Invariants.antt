use Rattle.sg_dependencies.proofs.Directs.{DirectTo}
use Rattle.sg_dependencies.proofs.equations.direct.Given as goal

abbrev pub invariant-loop-rule : goal.invariant-loop-rule
invariant-loop-rule l = DirectTo l.rules l.relations.items l.rule-index
