use Rattle.sg_load.proofs.RecordApart.{record_apart}
use Rattle.sg_load.proofs.laws.records_are_apart.Goals as goal

pub returns : goal.returns
returns c = record_apart
