use Rattle.std.proofs.Common.{◌≡◌, ◌++◌, drop}
use Rattle.sg_useless.specs.Uses.{numbered}
use Rattle.sg_useless.specs.Uses.{phylum_uses}
use Rattle.sg_useless.proofs.uses.add_all_phyla.Given as goal

abbrev pub invariant-loop-number : goal.invariant-loop-number
invariant-loop-number l = l.uses.items ++ numbered (phylum_uses) l.number (drop l.number l.phyla) ≡ l.initial.uses.items ++ numbered (phylum_uses) 0 l.phyla
