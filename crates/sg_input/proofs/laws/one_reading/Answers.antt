use Rattle.sg_input.proofs.Reading.{one-reading}
use Rattle.sg_input.proofs.laws.one_reading.Goals as goal

pub returns : goal.returns
returns c = λ spec sound v same tables m entry within text a b x y. one-reading spec sound v same tables m entry within text a b x y
