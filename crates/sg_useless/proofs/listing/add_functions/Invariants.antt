use Rattle.std.proofs.Common.{◌≡◌, ◌++◌, map}
use Rattle.sg_kinds.specs.Instances.{below}
use Rattle.sg_useless.specs.declared.part.Part.TheVariants.{Function}
use Rattle.sg_useless.proofs.listing.add_functions.Given as goal

abbrev pub invariant-loop-function : goal.invariant-loop-function
invariant-loop-function l = l.parts.items ≡ l.initial.parts.items ++ map Function (below l.function)
