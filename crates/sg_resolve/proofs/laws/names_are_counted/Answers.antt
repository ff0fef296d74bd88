use Rattle.sg_resolve.proofs.SpecNames.{names_counted}
use Rattle.sg_resolve.proofs.laws.names_are_counted.Goals as goal

pub returns : goal.returns
returns c = names_counted
