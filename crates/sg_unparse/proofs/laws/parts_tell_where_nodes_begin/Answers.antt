use Rattle.sg_unparse.proofs.Moved.{moved}
use Rattle.sg_unparse.proofs.laws.parts_tell_where_nodes_begin.Goals as goal

pub returns : goal.returns
returns c = moved
