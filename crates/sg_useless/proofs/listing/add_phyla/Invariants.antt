use Rattle.std.proofs.Common.{◌≡◌, ◌++◌, drop}
use Rattle.sg_useless.specs.Uses.{numbered}
use Rattle.sg_useless.specs.Useless.{phylum_parts}
use Rattle.sg_useless.proofs.listing.add_phyla.Given as goal

abbrev pub invariant-loop-p : goal.invariant-loop-p
invariant-loop-p l = l.parts.items ++ numbered (phylum_parts) l.p (drop l.p l.phyla) ≡ l.initial.parts.items ++ numbered (phylum_parts) 0 l.phyla
