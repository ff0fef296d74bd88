use Rattle.sg_counts.proofs.Order.{definitions_ordered}
use Rattle.sg_counts.proofs.laws.definitions_follow_the_text.Goals as goal

pub returns : goal.returns
returns c = definitions_ordered
