use Rattle.sg_record.proofs.TableKept.{table_kept, names_bare}
use Rattle.sg_record.proofs.laws.names_are_kept.Goals as goal

pub returns-clause-table : goal.returns-clause-table
returns-clause-table c = table_kept

pub returns-clause-bare : goal.returns-clause-bare
returns-clause-bare c = names_bare
