use Rattle.std.proofs.Common.{◌≡◌, ◌++◌, drop}
use Rattle.sg_witnesses.specs.Cycles.{steps_text}
use Rattle.sg_witnesses.proofs.cycles.write_steps.Given as goal

abbrev pub invariant-loop-step : goal.invariant-loop-step
invariant-loop-step l = l.out.items ++ steps_text l.spec l.op l.vertices l.from (drop l.step-index l.way.steps)
    ≡ l.initial.out.items ++ steps_text l.spec l.op l.vertices l.way.from l.way.steps
