use Rattle.std.specs.Prelude.{◌≡◌, ◌*◌, min, sum_by, take}
use Rattle.sg_remote.specs.Widths.{width_of}
use Rattle.sg_remote.proofs.hiding.pairs.Given as goal

abbrev pub invariant-loop-operator : goal.invariant-loop-operator
invariant-loop-operator l = l.pairs ≡ min 18446744073709551615 (sum_by (λ o. width_of l.names o * width_of l.names o) (take l.operator-index l.names.ops))
