use Rattle.std.proofs.Common.{◌≡◌, ◌++◌, drop}
use Rattle.std.specs.Prelude.{flat_map}
use Rattle.sg_useless.specs.Uses.{other}
use Rattle.sg_useless.proofs.uses.add_attrs.Given as goal

abbrev pub invariant-loop-attr : goal.invariant-loop-attr
invariant-loop-attr l = l.uses.items ++ flat_map (λ x. other l.own x.of) (drop l.attr-index l.attrs) ≡ l.initial.uses.items ++ flat_map (λ x. other l.own x.of) l.attrs
