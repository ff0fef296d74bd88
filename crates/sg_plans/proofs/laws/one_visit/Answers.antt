use Rattle.sg_plans.proofs.Visiting.{visit_some, visit_there}
use Rattle.sg_plans.proofs.Ways.{one_visit}
use Rattle.sg_plans.proofs.laws.one_visit.Goals as goal

pub returns-clause-some : goal.returns-clause-some
returns-clause-some c = λ rules plans t u w i live below. visit_some rules plans t u w i live below

pub returns-clause-one : goal.returns-clause-one
returns-clause-one c = λ rules plans t u j k i is are. one_visit rules plans t u j k i is are

pub returns-clause-there : goal.returns-clause-there
returns-clause-there c = λ spec plans t planned u j i is. visit_there spec plans t planned u j i is
