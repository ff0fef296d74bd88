use Rattle.std.specs.Prelude.{◌≡◌, ◌+◌, min, length, sum_by, take}
use Rattle.sg_kinds.specs.Specification.{attrs_of}
use Rattle.sg_remote.proofs.hiding.width.Given as goal

abbrev pub invariant-loop-argument : goal.invariant-loop-argument
invariant-loop-argument l = l.width ≡ min 18446744073709551615 (length (attrs_of l.names.phyla l.operator.phylum)
    + sum_by (λ p. length (attrs_of l.names.phyla p)) (take l.argument-index l.operator.args))
