use Rattle.sg_equations.proofs.FirstInText.{not_owed_first, twice_first, missing_first}
use Rattle.sg_equations.proofs.laws.first_is_first_in_the_text.Goals as goal

pub returns-clause-not_owed : goal.returns-clause-not_owed
returns-clause-not_owed c = not_owed_first

pub returns-clause-twice : goal.returns-clause-twice
returns-clause-twice c = twice_first

pub returns-clause-missing : goal.returns-clause-missing
returns-clause-missing c = missing_first
