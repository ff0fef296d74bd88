use Rattle.sg_select.proofs.Unparsing.{reached_unparsed}
use Rattle.sg_select.proofs.laws.reached_nodes_are_unparsed.Goals as goal

pub returns : goal.returns
returns c = reached_unparsed
