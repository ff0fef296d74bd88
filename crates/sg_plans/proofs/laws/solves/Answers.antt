use Rattle.sg_plans.proofs.Solved.{solved, leaf_value}
use Rattle.sg_plans.proofs.laws.solves.Goals as goal

pub returns-clause-equation : goal.returns-clause-equation
returns-clause-equation c = λ spec plans t planned i live. solved spec plans t planned i live

pub returns-clause-leaf : goal.returns-clause-leaf
returns-clause-leaf c = λ spec plans t planned a p v is. leaf_value spec plans t planned a p v is
