use Rattle.sg_states.proofs.Undoing.{kept_back, kept_forth}
use Rattle.sg_states.proofs.laws.kept_spots_come_back.Goals as goal

pub returns-clause-undone : goal.returns-clause-undone
returns-clause-undone c = kept_back

pub returns-clause-redone : goal.returns-clause-redone
returns-clause-redone c = kept_forth
