use Rattle.std.proofs.Common.{◌≡◌, ◌++◌, drop, map}
use Rattle.sg_useless.specs.Uses.{argument_step}
use Rattle.sg_useless.proofs.finding.add_argument_steps.Given as goal

abbrev pub invariant-loop-p : goal.invariant-loop-p
invariant-loop-p l = l.steps.items ++ map (argument_step l.own) (drop l.p-index l.args) ≡ l.initial.steps.items ++ map (argument_step l.own) l.args
