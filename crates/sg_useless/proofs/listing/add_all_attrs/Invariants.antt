use Rattle.std.proofs.Common.{◌≡◌, ◌++◌, drop}
use Rattle.sg_useless.specs.Uses.{numbered}
use Rattle.sg_useless.specs.Useless.{attrs_in}
use Rattle.sg_useless.proofs.listing.add_all_attrs.Given as goal

abbrev pub invariant-loop-p : goal.invariant-loop-p
invariant-loop-p l = l.parts.items ++ numbered (attrs_in) l.p (drop l.p l.phyla) ≡ l.initial.parts.items ++ numbered (attrs_in) 0 l.phyla
