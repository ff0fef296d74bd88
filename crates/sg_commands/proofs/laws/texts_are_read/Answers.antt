use Rattle.sg_input.proofs.Texts.{each-text}
use Rattle.sg_commands.proofs.Readers.{reads_there}
use Rattle.sg_commands.proofs.laws.texts_are_read.Goals as goal

pub returns : goal.returns
returns c = λ spec sound l of v same tables m.
    reads_there spec (λ entry within text. each-text spec sound l of v same tables m entry within text)
