use Rattle.std.proofs.Common.{◌≡◌, ◌++◌, drop, map}
use Rattle.sg_useless.specs.declared.part.Part.TheVariants.{Phylum}
use Rattle.sg_useless.proofs.uses.add_phyla.Given as goal

abbrev pub invariant-loop-p : goal.invariant-loop-p
invariant-loop-p l = l.uses.items ++ map (Phylum) (drop l.p-index l.of) ≡ l.initial.uses.items ++ map (Phylum) l.of
