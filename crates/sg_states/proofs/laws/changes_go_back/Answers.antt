use Rattle.sg_states.proofs.Undoing.{marked_goes_back, replaced_back}
use Rattle.sg_states.proofs.laws.changes_go_back.Goals as goal

pub returns-clause-replaced : goal.returns-clause-replaced
returns-clause-replaced c = replaced_back

pub returns-clause-marked : goal.returns-clause-marked
returns-clause-marked c = marked_goes_back
