use Rattle.std.proofs.Common.{◌≡◌, ◌-◌}
use Rattle.sg_schemes.specs.ShownFlags.{passes}
use Rattle.sg_schemes.proofs.shown.passes.Given as goal

abbrev pub invariant-loop-round : goal.invariant-loop-round
invariant-loop-round l = passes (l.count - l.round) l.ops l.flags.items ≡ passes l.count l.ops l.initial.flags.items
