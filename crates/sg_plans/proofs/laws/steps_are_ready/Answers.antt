use Rattle.sg_plans.proofs.Visiting.{ready_argument, ready_taken, ready_given}
use Rattle.sg_plans.proofs.laws.steps_are_ready.Goals as goal

pub returns-clause-argument : goal.returns-clause-argument
returns-clause-argument c = λ spec plans t planned u j m r has at x o rule names. ready_argument spec plans t planned u j m r has at x o rule names

pub returns-clause-taken : goal.returns-clause-taken
returns-clause-taken c = λ spec plans t planned u j m k i has at a is. ready_taken spec plans t planned u j m k i has at a is

pub returns-clause-given : goal.returns-clause-given
returns-clause-given c = λ spec plans t planned u j m k i h has at less a is. ready_given spec plans t planned u j m k i h has at less a is
