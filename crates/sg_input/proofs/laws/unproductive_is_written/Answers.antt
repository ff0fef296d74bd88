use Rattle.sg_input.proofs.Productive.{to-written, from-written}
use Rattle.sg_input.proofs.laws.unproductive_is_written.Goals as goal

pub returns : goal.returns
returns c = λ spec sound X. (to-written spec sound X, from-written spec sound X)
