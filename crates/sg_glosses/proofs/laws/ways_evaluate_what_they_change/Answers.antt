use Rattle.sg_glosses.proofs.Evaluating.{has_redone, has_undone}
use Rattle.sg_glosses.proofs.laws.ways_evaluate_what_they_change.Goals as goal

pub returns-clause-undo : goal.returns-clause-undo
returns-clause-undo c = has_undone

pub returns-clause-redo : goal.returns-clause-redo
returns-clause-redo c = has_redone
