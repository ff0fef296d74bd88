use Rattle.sg_enclosing.proofs.NearSame.{near_same}
use Rattle.sg_enclosing.proofs.laws.near_is_same.Goals as goal

pub returns : goal.returns
returns c = near_same
