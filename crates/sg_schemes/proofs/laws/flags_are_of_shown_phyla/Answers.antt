use Rattle.sg_schemes.proofs.FirstMissing.{shown_flag, flag_shown}
use Rattle.sg_schemes.proofs.laws.flags_are_of_shown_phyla.Goals as goal

pub returns-clause-only : goal.returns-clause-only
returns-clause-only c = shown_flag

pub returns-clause-all : goal.returns-clause-all
returns-clause-all c = λ t p is. flag_shown t is
