use Rattle.sg_saved.proofs.Opening.{written-read}
use Rattle.sg_saved.proofs.laws.written_is_read.Goals as goal

pub returns : goal.returns
returns c = written-read
