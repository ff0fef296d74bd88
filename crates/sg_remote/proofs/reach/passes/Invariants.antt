use Rattle.std.proofs.Common.{◌≡◌, ◌-◌}
use Rattle.sg_remote.specs.Reach.{passes}
use Rattle.sg_remote.proofs.reach.passes.Given as goal

abbrev pub invariant-loop-round : goal.invariant-loop-round
invariant-loop-round l = passes (l.count - l.round) l.edges l.flags.items ≡ passes l.count l.edges l.initial.flags.items
