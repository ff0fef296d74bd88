use Rattle.std.proofs.Common.{length}
use Rattle.sg_exchanges.proofs.Dropping.{IsForgetting}
use Rattle.sg_exchanges.proofs.steps.forget_future.Given as goal

abbrev pub invariant-loop-step : goal.invariant-loop-step
invariant-loop-step l = IsForgetting l.initial.terms l.terms l.initial.history l.history

abbrev pub decreases-loop-step : goal.decreases-loop-step
decreases-loop-step l = length l.history.future
