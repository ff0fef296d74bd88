use Rattle.sg_lalr.proofs.TableLaws.{one_action}
use Rattle.sg_lalr.proofs.laws.one_action.Goals as goal

pub returns : goal.returns
returns c = λ v tables s t low terminal. one_action v tables s t low terminal
