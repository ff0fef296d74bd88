use Rattle.sg_uses.proofs.Order.{uses_in}
use Rattle.sg_uses.proofs.laws.uses_follow_the_text.Goals as goal

pub returns : goal.returns
returns c = uses_in
