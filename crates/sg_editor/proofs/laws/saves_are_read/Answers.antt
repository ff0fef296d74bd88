use Rattle.sg_editor.proofs.Naming.{saved_file, saved_once, saved_read}
use Rattle.sg_editor.proofs.laws.saves_are_read.Goals as goal

pub returns-clause-file : goal.returns-clause-file
returns-clause-file c = saved_file

pub returns-clause-one_spelling : goal.returns-clause-one_spelling
returns-clause-one_spelling c = saved_once

pub returns-clause-read : goal.returns-clause-read
returns-clause-read c = saved_read
