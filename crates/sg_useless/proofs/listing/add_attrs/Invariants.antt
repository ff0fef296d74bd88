use Rattle.std.proofs.Common.{◌≡◌, ◌++◌, drop}
use Rattle.sg_useless.specs.Uses.{numbered}
use Rattle.sg_useless.specs.Useless.{attr_parts}
use Rattle.sg_useless.proofs.listing.add_attrs.Given as goal

abbrev pub invariant-loop-slot : goal.invariant-loop-slot
invariant-loop-slot l = l.parts.items ++ numbered (attr_parts l.p) l.slot (drop l.slot l.attrs) ≡ l.initial.parts.items ++ numbered (attr_parts l.p) 0 l.attrs
