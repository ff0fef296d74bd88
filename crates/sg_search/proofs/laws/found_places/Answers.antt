use Rattle.sg_search.proofs.Outermost.{outer_apart}
use Rattle.sg_search.proofs.laws.found_places.Goals as goal

pub returns-clause-apart : goal.returns-clause-apart
returns-clause-apart c = outer_apart
