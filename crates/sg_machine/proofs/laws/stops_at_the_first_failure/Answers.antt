use Rattle.sg_machine.proofs.Ends.{stops-fail}
use Rattle.sg_machine.proofs.laws.stops_at_the_first_failure.Goals as goal

pub returns : goal.returns
returns c = λ v tables m k N entry alg a ts tokens rest x. stops-fail v tables m alg k N entry a ts tokens rest x
