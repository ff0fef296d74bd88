use Rattle.sg_record.proofs.RecordSound.{record_named, record_numbered}
use Rattle.sg_record.proofs.laws.records_have_nonterminals.Goals as goal

pub returns-clause-named : goal.returns-clause-named
returns-clause-named c = record_named

pub returns-clause-numbered : goal.returns-clause-numbered
returns-clause-numbered c = record_numbered
