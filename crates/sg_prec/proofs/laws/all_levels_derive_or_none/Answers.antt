use Rattle.sg_prec.proofs.Descent.{each_level, first_level}
use Rattle.sg_prec.proofs.laws.all_levels_derive_or_none.Goals as goal

pub returns : goal.returns
returns c = λ spec N i low. (first_level spec N i, each_level spec N i low)
