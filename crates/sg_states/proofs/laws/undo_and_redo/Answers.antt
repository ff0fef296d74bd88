use Rattle.sg_states.proofs.Undoing.{redone_back, undone_back}
use Rattle.sg_states.proofs.laws.undo_and_redo.Goals as goal

pub returns-clause-redone : goal.returns-clause-redone
returns-clause-redone c = redone_back

pub returns-clause-undone : goal.returns-clause-undone
returns-clause-undone c = undone_back
