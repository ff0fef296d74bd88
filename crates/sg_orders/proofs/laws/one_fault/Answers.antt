use Rattle.sg_orders.proofs.OneFault.{one_fault}
use Rattle.sg_orders.proofs.laws.one_fault.Goals as goal

pub returns : goal.returns
returns c = λ rules ranges e f x y. one_fault rules ranges e f x y
