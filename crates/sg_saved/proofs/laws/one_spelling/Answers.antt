use Rattle.sg_saved.proofs.OneSpelling.{one-spelling}
use Rattle.sg_saved.proofs.laws.one_spelling.Goals as goal

pub returns : goal.returns
returns c = one-spelling
