use Rattle.sg_unparse.proofs.Begins.{region_begins}
use Rattle.sg_unparse.proofs.laws.nodes_begin_behind_what_is_before.Goals as goal

pub returns : goal.returns
returns c = region_begins
