use Rattle.sg_names.proofs.FarLaws.{only_written_there}
use Rattle.sg_names.proofs.laws.attributes_are_written.Goals as goal

pub returns : goal.returns
returns c = only_written_there
