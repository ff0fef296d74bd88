use Rattle.sg_machine.proofs.Inputs.{each-end}
use Rattle.sg_machine.proofs.laws.always_ends.Goals as goal

pub returns : goal.returns
returns c = λ v tables m k N entry alg a ts tokens. each-end v tables m alg k N entry ts tokens a
