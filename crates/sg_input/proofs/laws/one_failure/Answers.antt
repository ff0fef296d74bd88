use Rattle.sg_input.proofs.Reading.{no-sentence, one-place}
use Rattle.sg_input.proofs.laws.one_failure.Goals as goal

pub returns-clause-apart : goal.returns-clause-apart
returns-clause-apart c = no-sentence

pub returns-clause-place : goal.returns-clause-place
returns-clause-place c = one-place
