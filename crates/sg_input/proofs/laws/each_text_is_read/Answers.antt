use Rattle.sg_input.proofs.Texts.{each-text}
use Rattle.sg_input.proofs.laws.each_text_is_read.Goals as goal

pub returns : goal.returns
returns c = λ spec sound l of v same tables m entry within text. each-text spec sound l of v same tables m entry within text
