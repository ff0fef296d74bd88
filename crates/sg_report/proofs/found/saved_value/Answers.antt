use Rattle.std.proofs.Common.{ap, Err}
use Rattle.sg_saved.specs.Answers.{opened_of}
use Rattle.sg_report.specs.Found.{from_saved}
use Rattle.sg_report.proofs.Reading.{read_told}
use Rattle.sg_report.proofs.found.saved_value.Goals as goal

pub returns-in-Ok-clause-told : goal.returns-in-Ok-clause-told
returns-in-Ok-clause-told c = λ a is. ap from_saved (c.in-Ok.ensures.only a is)

pub returns-in-Err-clause-told : goal.returns-in-Err-clause-told
returns-in-Err-clause-told c = λ a is. read_told (opened_of (Err c.in-Err.fault)) from_saved a c.of_opening.result (c.in-Err.ensures.only a is) c.of_opening.ensures
