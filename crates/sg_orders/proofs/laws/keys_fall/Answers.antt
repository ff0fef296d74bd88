use Rattle.sg_orders.proofs.ValidFacts.{keys_fall}
use Rattle.sg_orders.proofs.laws.keys_fall.Goals as goal

pub returns : goal.returns
returns c = λ spec plans t root ranges valid fits. keys_fall spec plans t root ranges valid fits
