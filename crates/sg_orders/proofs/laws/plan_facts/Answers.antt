use Rattle.sg_orders.proofs.ValidFacts.{plan_facts}
use Rattle.sg_orders.proofs.laws.plan_facts.Goals as goal

pub returns : goal.returns
returns c = λ rules plans ranges valid p op. plan_facts rules plans ranges valid p op
