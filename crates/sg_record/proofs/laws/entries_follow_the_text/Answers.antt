use Rattle.sg_record.proofs.FirstEntry.{entries_ordered, twice_first, type_first}
use Rattle.sg_record.proofs.laws.entries_follow_the_text.Goals as goal

pub returns-clause-entries : goal.returns-clause-entries
returns-clause-entries c = entries_ordered

pub returns-clause-entry_twice : goal.returns-clause-entry_twice
returns-clause-entry_twice c = twice_first

pub returns-clause-entry_type : goal.returns-clause-entry_type
returns-clause-entry_type c = type_first
