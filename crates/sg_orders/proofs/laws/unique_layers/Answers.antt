use Rattle.sg_orders.proofs.Unique.{same_layers}
use Rattle.sg_orders.proofs.laws.unique_layers.Goals as goal

pub returns : goal.returns
returns c = λ rules X layer other is are a attr. same_layers rules X layer other is are a attr
