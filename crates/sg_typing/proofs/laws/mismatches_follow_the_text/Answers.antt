use Rattle.sg_typing.proofs.MismatchHead.{mismatches_head}
use Rattle.sg_typing.proofs.MismatchOrder.{none_before}
use Rattle.sg_typing.proofs.laws.mismatches_follow_the_text.Goals as goal

pub returns : goal.returns
returns c = record { first = mismatches_head; least = none_before }
