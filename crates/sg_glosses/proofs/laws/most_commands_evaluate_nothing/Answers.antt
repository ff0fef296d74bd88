use Rattle.sg_glosses.proofs.Evaluating.{quiet, refused_quiet}
use Rattle.sg_glosses.proofs.laws.most_commands_evaluate_nothing.Goals as goal

pub returns-clause-others : goal.returns-clause-others
returns-clause-others c = λ spec height r s got step command. quiet spec height r s got step command

pub returns-clause-refused : goal.returns-clause-refused
returns-clause-refused c = λ spec height r s got step command. refused_quiet spec height r s got step command
