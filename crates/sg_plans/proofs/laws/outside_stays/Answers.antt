use Rattle.sg_plans.proofs.Outside.{live_before, live_after}
use Rattle.sg_plans.proofs.laws.outside_stays.Goals as goal

pub returns-clause-before : goal.returns-clause-before
returns-clause-before c = λ rules t u s i out live. live_before rules t u s i out live

pub returns-clause-after : goal.returns-clause-after
returns-clause-after c = λ rules t u s i out live. live_after rules t u s i out live
