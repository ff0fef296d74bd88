use Rattle.sg_edits.proofs.Smaller.{removed_small}
use Rattle.sg_edits.proofs.laws.removed_terms_stay_small.Goals as goal

pub returns : goal.returns
returns c = removed_small
