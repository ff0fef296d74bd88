use Rattle.sg_plans.proofs.Bearers.{found_live}
use Rattle.sg_plans.proofs.laws.bearers.Goals as goal

pub returns-clause-live : goal.returns-clause-live
returns-clause-live c = λ rules t a i is. found_live rules t a i is
