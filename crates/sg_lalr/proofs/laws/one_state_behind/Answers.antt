use Rattle.sg_lalr.proofs.TableLaws.{one_behind}
use Rattle.sg_lalr.proofs.laws.one_state_behind.Goals as goal

pub returns : goal.returns
returns c = λ v tables s X low. one_behind v tables s X low
