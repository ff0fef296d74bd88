use Rattle.std.proofs.Common.{◌≡◌, drop}
use Rattle.sg_schemes.specs.ShownFlags.{pass}
use Rattle.sg_schemes.proofs.shown.pass.Given as goal

abbrev pub invariant-loop-operator : goal.invariant-loop-operator
invariant-loop-operator l = pass l.flags (drop l.operator-index l.ops) ≡ pass l.initial.flags l.ops
