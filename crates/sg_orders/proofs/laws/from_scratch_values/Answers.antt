use Rattle.sg_orders.proofs.ValidFacts.{from_scratch_values}
use Rattle.sg_orders.proofs.laws.from_scratch_values.Goals as goal

pub returns : goal.returns
returns c = λ spec plans t root ranges valid fits. from_scratch_values spec plans t root ranges valid fits
