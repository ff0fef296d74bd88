use Rattle.std.proofs.Common.{◌≡◌, ◌++◌, take}
use Rattle.std.specs.Prelude.{flat_map}
use Rattle.sg_plan_text.specs.Plan.{later_step}
use Rattle.sg_plan_text.proofs.steps.write_later.Given as goal

abbrev pub invariant-loop-step : goal.invariant-loop-step
invariant-loop-step l = l.out.items ≡ l.initial.out.items ++ flat_map (later_step l.spec l.operator) (take l.step-index l.steps)
