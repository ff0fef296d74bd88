use Rattle.std.proofs.Common.{◌≡◌, ◌++◌, map}
use Rattle.sg_kinds.specs.Instances.{below}
use Rattle.sg_useless.specs.declared.part.Part.TheVariants.{Local}
use Rattle.sg_useless.proofs.listing.add_locals.Given as goal

abbrev pub invariant-loop-local : goal.invariant-loop-local
invariant-loop-local l = l.parts.items ≡ l.initial.parts.items ++ map (Local l.op) (below l.local)
