use Rattle.sg_machine.proofs.Ends.{accepted, accepts-only}
use Rattle.sg_machine.proofs.laws.accepts_sentences.Goals as goal

pub returns-clause-accepts : goal.returns-clause-accepts
returns-clause-accepts c = λ v tables m k N entry alg a ts b n d. accepted v tables m alg k N entry a ts b n d

pub returns-clause-only : goal.returns-clause-only
returns-clause-only c = λ v tables m k N entry alg a ts tokens n z x. accepts-only v tables m alg k N entry a ts tokens n z x
