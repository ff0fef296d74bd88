use Rattle.std.proofs.Common.{ℕ, ◌<◌, ◌^◌, length}
use Rattle.sg_kinds.specs.Typing.{slots_there}
use Rattle.sg_names.specs.Drafted.{drafted}
use Rattle.sg_equations.proofs.narrow.is_narrow.Given as goal

abbrev pub invariant-loop-operator : goal.invariant-loop-operator
invariant-loop-operator l = (k : ℕ) → k < l.operator-index → length (slots_there (drafted l.names) k 0) < 2 ^ 32
