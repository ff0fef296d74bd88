use Rattle.sg_states.proofs.Undoing.{marked_goes_forth, replaced_forth}
use Rattle.sg_states.proofs.laws.changes_go_forth.Goals as goal

pub returns-clause-replaced : goal.returns-clause-replaced
returns-clause-replaced c = replaced_forth

pub returns-clause-marked : goal.returns-clause-marked
returns-clause-marked c = marked_goes_forth
