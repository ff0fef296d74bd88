use Rattle.std.proofs.Common.{◌≡◌, ◌++◌, drop, map}
use Rattle.std.specs.Prelude.{flat_map}
use Rattle.sg_useless.specs.Uses.{argument_step, argument_steps}
use Rattle.sg_kinds.specs.declared.spec.Operator.{Operator}
use Rattle.sg_useless.proofs.finding.argument_steps.Given as goal

abbrev pub invariant-loop-operator : goal.invariant-loop-operator
invariant-loop-operator l = l.steps.items ++ flat_map (λ (o : Operator). map (argument_step o.phylum) o.args) (drop l.operator-index l.spec.ops) ≡ argument_steps l.spec
