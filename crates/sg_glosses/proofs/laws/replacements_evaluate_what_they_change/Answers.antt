use Rattle.sg_glosses.proofs.Evaluating.{has_replaced}
use Rattle.sg_glosses.proofs.laws.replacements_evaluate_what_they_change.Goals as goal

pub returns : goal.returns
returns c = λ spec height r s got step command. has_replaced spec height r s got step command
