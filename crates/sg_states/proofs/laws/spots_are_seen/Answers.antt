use Rattle.sg_states.proofs.Spotted.{settled_seen}
use Rattle.sg_states.proofs.laws.spots_are_seen.Goals as goal

pub returns-clause-seen : goal.returns-clause-seen
returns-clause-seen c = λ spec height v t s tall. settled_seen spec height t v s tall
