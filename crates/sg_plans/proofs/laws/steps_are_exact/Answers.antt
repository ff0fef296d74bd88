use Rattle.sg_plans.proofs.Visiting.{step_within, step_once, step_equation}
use Rattle.sg_plans.proofs.laws.steps_are_exact.Goals as goal

pub returns-clause-within : goal.returns-clause-within
returns-clause-within c = λ spec plans t planned u j m s has at i is. step_within spec plans t planned u j m s has at i is

pub returns-clause-once : goal.returns-clause-once
returns-clause-once c = λ spec plans t planned u j m n s r has at to i is are. step_once spec plans t planned u j m n s r has at to i is are

pub returns-clause-equation : goal.returns-clause-equation
returns-clause-equation c = λ spec plans t planned u j m r has at. step_equation spec plans t planned u j m r has at
