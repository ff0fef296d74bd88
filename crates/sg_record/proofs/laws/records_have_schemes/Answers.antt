use Rattle.sg_record.proofs.RecordSound.{record_shown}
use Rattle.sg_record.proofs.laws.records_have_schemes.Goals as goal

pub returns : goal.returns
returns c = record_shown
