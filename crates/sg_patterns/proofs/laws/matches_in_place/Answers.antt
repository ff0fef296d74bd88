use Rattle.sg_patterns.proofs.InPlace.{in-place}
use Rattle.sg_patterns.proofs.laws.matches_in_place.Goals as goal

pub returns : goal.returns
returns c = in-place
