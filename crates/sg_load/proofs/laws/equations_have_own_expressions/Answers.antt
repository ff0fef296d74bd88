use Rattle.sg_load.proofs.OwnExprs.{accepted_own}
use Rattle.sg_load.proofs.laws.equations_have_own_expressions.Goals as goal

pub returns : goal.returns
returns c = accepted_own
