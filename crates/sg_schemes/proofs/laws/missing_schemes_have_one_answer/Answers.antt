use Rattle.sg_schemes.proofs.FirstMissing.{no_scheme_is, one_answer}
use Rattle.sg_schemes.proofs.laws.missing_schemes_have_one_answer.Goals as goal

pub returns-clause-holds : goal.returns-clause-holds
returns-clause-holds c = no_scheme_is

pub returns-clause-one : goal.returns-clause-one
returns-clause-one c = one_answer
