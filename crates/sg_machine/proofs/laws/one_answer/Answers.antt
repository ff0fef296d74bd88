use Rattle.sg_machine.proofs.Ends.{no-sentence, one-place}
use Rattle.sg_machine.proofs.laws.one_answer.Goals as goal

pub returns-clause-apart : goal.returns-clause-apart
returns-clause-apart c = no-sentence

pub returns-clause-place : goal.returns-clause-place
returns-clause-place c = one-place
