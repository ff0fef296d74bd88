use Rattle.sg_load.proofs.RecordCounts.{record_counted}
use Rattle.sg_load.proofs.laws.records_are_counted.Goals as goal

pub returns : goal.returns
returns c = record_counted
