use Rattle.sg_plans.proofs.Visiting.{gives_nothing, gives_next, gives_all, gives_only}
use Rattle.sg_plans.proofs.laws.steps_give.Goals as goal

pub returns-clause-nothing : goal.returns-clause-nothing
returns-clause-nothing c = λ rules plans t u j a is. gives_nothing rules plans t u j a is

pub returns-clause-next : goal.returns-clause-next
returns-clause-next c = λ rules plans t u j m s at a is. gives_next rules plans t u j m s at a is

pub returns-clause-all : goal.returns-clause-all
returns-clause-all c = λ spec plans t planned u j a is. gives_all spec plans t planned u j a is

pub returns-clause-only : goal.returns-clause-only
returns-clause-only c = λ spec plans t planned u j m has a is. gives_only spec plans t planned u j m has a is
