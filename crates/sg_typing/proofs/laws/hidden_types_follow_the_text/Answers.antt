use Rattle.sg_typing.proofs.HiddenOrder.{hidden_head, none_hidden_before}
use Rattle.sg_typing.proofs.laws.hidden_types_follow_the_text.Goals as goal

pub returns : goal.returns
returns c = record { first = hidden_head; least = none_hidden_before }
