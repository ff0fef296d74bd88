use Rattle.std.proofs.Common.{◌≡◌, drop}
use Rattle.sg_unenclosed.specs.Unenclosed.{leads}
use Rattle.sg_unenclosed.proofs.unenclosed.leads.Given as goal

abbrev pub invariant-loop-step : goal.invariant-loop-step
invariant-loop-step l = leads l.ops l.list l.fn.from l.steps l.to ≡ leads l.ops l.list l.phylum (drop l.step-index l.steps) l.to
