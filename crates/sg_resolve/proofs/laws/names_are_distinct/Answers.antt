use Rattle.sg_resolve.proofs.SpecNames.{names_distinct}
use Rattle.sg_resolve.proofs.laws.names_are_distinct.Goals as goal

pub returns : goal.returns
returns c = names_distinct
