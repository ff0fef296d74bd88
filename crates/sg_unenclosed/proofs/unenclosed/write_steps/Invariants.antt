use Rattle.std.proofs.Common.{◌≡◌, ◌++◌, take}
use Rattle.std.specs.Prelude.{flat_map}
use Rattle.sg_unenclosed.specs.Unenclosed.{step_text}
use Rattle.sg_unenclosed.proofs.unenclosed.write_steps.Given as goal

abbrev pub invariant-loop-step : goal.invariant-loop-step
invariant-loop-step l = l.out.items ≡ l.initial.out.items ++ flat_map (step_text l.table) (take l.step-index l.steps)
