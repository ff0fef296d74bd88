use Rattle.sg_load.proofs.RecordNamed.{record_named}
use Rattle.sg_load.proofs.laws.records_have_names.Goals as goal

pub returns : goal.returns
returns c = record_named
