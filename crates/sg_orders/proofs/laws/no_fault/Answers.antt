use Rattle.sg_orders.proofs.Refused.{refused}
use Rattle.sg_orders.proofs.laws.no_fault.Goals as goal

pub returns : goal.returns
returns c = λ rules ranges ordered e is other. refused rules ranges e is other ordered
