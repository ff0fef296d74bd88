use Rattle.sg_record.proofs.RecordSound.{record_entered}
use Rattle.sg_record.proofs.laws.records_have_entries.Goals as goal

pub returns : goal.returns
returns c = record_entered
