use Rattle.sg_editor.specs.Ask.{tells}
use Rattle.sg_editor.proofs.Telling.{others_tell}
use Rattle.sg_editor.proofs.laws.others_ask_nothing.Goals as goal

pub returns : goal.returns
returns c = λ spec height r s command others. (tells spec height r s command, others_tell spec height r s command others)
