use Rattle.std.proofs.Common.{◌≡◌, ◌++◌, drop}
use Rattle.sg_useless.specs.Uses.{numbered}
use Rattle.sg_plan_text.specs.Plan.{operator_text}
use Rattle.sg_plan_text.proofs.steps.write_operators.Given as goal

abbrev pub invariant-loop-op : goal.invariant-loop-op
invariant-loop-op l = l.out.items ++ numbered (operator_text l.spec l.plans) l.op (drop l.op l.spec.ops) ≡ l.initial.out.items ++ numbered (operator_text l.spec l.plans) 0 l.spec.ops
