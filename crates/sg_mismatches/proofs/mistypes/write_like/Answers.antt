use Rattle.sg_mismatches.proofs.Lines.{both}
use Rattle.sg_mismatches.proofs.mistypes.write_like.Goals as goal

pub returns : goal.returns
returns c = both _ _ _ _ _ c.in_ok-extend_from_slice.ensures.items c.in_ok-write_phylum.ensures
