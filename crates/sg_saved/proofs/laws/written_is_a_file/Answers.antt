use Rattle.sg_saved.proofs.OneSpelling.{written-file}
use Rattle.sg_saved.proofs.laws.written_is_a_file.Goals as goal

pub returns : goal.returns
returns c = written-file
