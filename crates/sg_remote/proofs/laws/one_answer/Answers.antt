use Rattle.sg_remote.proofs.FirstBare.{one_answer}
use Rattle.sg_remote.proofs.laws.one_answer.Goals as goal

pub returns : goal.returns
returns c = one_answer
