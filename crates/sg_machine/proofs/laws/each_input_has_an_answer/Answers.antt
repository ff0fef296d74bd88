use Rattle.sg_machine.proofs.Inputs.{each-answer}
use Rattle.sg_machine.proofs.laws.each_input_has_an_answer.Goals as goal

pub returns : goal.returns
returns c = λ v tables m k N entry alg ts tokens. each-answer v tables m alg k N entry ts tokens
