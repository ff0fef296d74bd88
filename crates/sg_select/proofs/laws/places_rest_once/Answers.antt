use Rattle.sg_select.proofs.Neighbours.{resting_apart}
use Rattle.sg_select.proofs.laws.places_rest_once.Goals as goal

pub returns : goal.returns
returns c = resting_apart
