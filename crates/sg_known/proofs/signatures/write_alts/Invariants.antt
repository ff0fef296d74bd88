use Rattle.std.proofs.Common.{◌≡◌, ◌++◌, take}
use Rattle.std.specs.Prelude.{flat_map}
use Rattle.sg_known.specs.Signatures.{alt_text}
use Rattle.sg_known.proofs.signatures.write_alts.Given as goal

abbrev pub invariant-loop-alt : goal.invariant-loop-alt
invariant-loop-alt l = l.out.items ≡ l.initial.out.items ++ flat_map (alt_text l.name l.phylum) (take l.alt-index l.alts)
