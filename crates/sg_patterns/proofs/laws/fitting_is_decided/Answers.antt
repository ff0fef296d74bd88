use Rattle.sg_patterns.proofs.Deciding.{decide-fits}
use Rattle.sg_patterns.proofs.laws.fitting_is_decided.Goals as goal

pub returns : goal.returns
returns c = decide-fits
