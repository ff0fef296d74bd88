use Rattle.sg_orders.proofs.ValidFacts.{ranks}
use Rattle.sg_orders.proofs.laws.ranks.Goals as goal

pub returns : goal.returns
returns c = λ spec plans t root ranges valid fits. ranks spec plans t root ranges valid fits
