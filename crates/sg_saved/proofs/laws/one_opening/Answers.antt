use Rattle.sg_saved.proofs.Opening.{one-opening}
use Rattle.sg_saved.proofs.laws.one_opening.Goals as goal

pub returns : goal.returns
returns c = one-opening
