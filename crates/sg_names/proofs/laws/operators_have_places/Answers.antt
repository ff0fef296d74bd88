use Rattle.sg_names.proofs.OpPlaces.{places_count}
use Rattle.sg_names.proofs.laws.operators_have_places.Goals as goal

pub returns : goal.returns
returns c = places_count
