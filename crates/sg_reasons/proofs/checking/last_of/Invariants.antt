use Rattle.std.proofs.Common.{ℕ, drop}
use Rattle.sg_reasons.specs.Reasons.{AreSteps}
use Rattle.sg_reasons.proofs.checking.last_of.Given as goal

abbrev pub invariant-loop-step : goal.invariant-loop-step
invariant-loop-step l = (n : ℕ) → AreSteps l.scene.rules.now l.known.reasons.now l.known.low l.op l.from (drop l.step-index l.way.steps) n
    → AreSteps l.scene.rules.now l.known.reasons.now l.known.low l.op l.way.from l.way.steps n
