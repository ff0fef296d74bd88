use Rattle.sg_orders.proofs.ValidFacts.{visit_low, visit_high}
use Rattle.sg_orders.proofs.laws.visits_are_counted.Goals as goal

pub returns-clause-low : goal.returns-clause-low
returns-clause-low c = λ rules plans valid X a low there. visit_low rules plans valid X a low there

pub returns-clause-high : goal.returns-clause-high
returns-clause-high c = λ rules plans valid X a low there. visit_high rules plans valid X a low there
