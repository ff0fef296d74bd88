use Rattle.sg_plans.proofs.Solved.{root_gives}
use Rattle.sg_plans.proofs.laws.roots.Goals as goal

pub returns-clause-all : goal.returns-clause-all
returns-clause-all c = λ spec plans t planned a i is. root_gives spec plans t planned a i is
