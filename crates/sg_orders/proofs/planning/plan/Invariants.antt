use Rattle.sg_orders.proofs.Plans.{PlannedTo}
use Rattle.sg_orders.proofs.planning.plan.Given as goal

abbrev pub invariant-loop-op : goal.invariant-loop-op
invariant-loop-op l = PlannedTo l.rules l.timing l.all_steps.items l.op
