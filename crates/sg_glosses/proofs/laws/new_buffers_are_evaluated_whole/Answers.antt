use Rattle.sg_glosses.proofs.Evaluating.{has_opened}
use Rattle.sg_glosses.proofs.laws.new_buffers_are_evaluated_whole.Goals as goal

pub returns : goal.returns
returns c = λ spec height r s got step command. has_opened spec height r s got step command
