use Rattle.sg_mistyped.proofs.Places.{mistypes_places}
use Rattle.sg_mistyped.proofs.laws.mistypes_are_mismatches.Goals as goal

pub returns : goal.returns
returns c = mistypes_places
