use Rattle.sg_enclosing.proofs.FarValues.{far_value}
use Rattle.sg_enclosing.proofs.laws.far_values.Goals as goal

pub returns : goal.returns
returns c = far_value
