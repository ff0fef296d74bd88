use Rattle.sg_equations.proofs.TextOrder.{targets_ordered, operators_ordered}
use Rattle.sg_equations.proofs.laws.equations_follow_the_text.Goals as goal

pub returns-clause-targets : goal.returns-clause-targets
returns-clause-targets c = targets_ordered

pub returns-clause-operators : goal.returns-clause-operators
returns-clause-operators c = operators_ordered
