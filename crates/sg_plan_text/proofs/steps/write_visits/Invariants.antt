use Rattle.std.proofs.Common.{◌≡◌, ◌++◌, drop}
use Rattle.sg_useless.specs.Uses.{numbered}
use Rattle.sg_plan_text.specs.Plan.{visit_steps}
use Rattle.sg_plan_text.proofs.steps.write_visits.Given as goal

abbrev pub invariant-loop-k : goal.invariant-loop-k
invariant-loop-k l = l.out.items ++ numbered (visit_steps l.spec l.operator) l.k (drop l.k l.visits) ≡ l.initial.out.items ++ numbered (visit_steps l.spec l.operator) 0 l.visits
