use Rattle.sg_remote.proofs.BareNodes.{bare_node, node_is_bare}
use Rattle.sg_remote.proofs.laws.bare_nodes.Goals as goal

pub returns-clause-some : goal.returns-clause-some
returns-clause-some c = bare_node

pub returns-clause-only : goal.returns-clause-only
returns-clause-only c = node_is_bare
