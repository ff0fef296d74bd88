use Rattle.std.proofs.Common.{◌≡◌, ◌++◌, drop}
use Rattle.std.specs.Prelude.{flat_map}
use Rattle.sg_useless.specs.Uses.{transform_uses}
use Rattle.sg_useless.proofs.uses.add_transforms.Given as goal

abbrev pub invariant-loop-transform : goal.invariant-loop-transform
invariant-loop-transform l = l.uses.items ++ flat_map (transform_uses l.spec) (drop l.transform-index l.spec.transforms) ≡ l.initial.uses.items ++ flat_map (transform_uses l.spec) l.spec.transforms
