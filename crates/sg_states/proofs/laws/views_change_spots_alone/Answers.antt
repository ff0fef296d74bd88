use Rattle.sg_states.proofs.Undoing.{viewed_twice}
use Rattle.sg_states.proofs.laws.views_change_spots_alone.Goals as goal

pub returns-clause-twice : goal.returns-clause-twice
returns-clause-twice c = viewed_twice
