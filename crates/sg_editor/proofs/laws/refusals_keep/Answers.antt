use Rattle.sg_editor.proofs.Refusing.{refused}
use Rattle.sg_editor.proofs.laws.refusals_keep.Goals as goal

pub returns : goal.returns
returns c = λ spec height r s got step command. refused spec height r s got step command
