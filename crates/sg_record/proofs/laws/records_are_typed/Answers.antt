use Rattle.sg_record.proofs.RecordSound.{record_typed}
use Rattle.sg_record.proofs.laws.records_are_typed.Goals as goal

pub returns : goal.returns
returns c = record_typed
