use Rattle.sg_unparse.proofs.Ends.{unparsed_ends}
use Rattle.sg_unparse.proofs.Spans.{regions_end}
use Rattle.sg_unparse.proofs.laws.unparsed_nodes_end.Goals as goal

pub returns-clause-ends : goal.returns-clause-ends
returns-clause-ends c = unparsed_ends

pub returns-clause-regions : goal.returns-clause-regions
returns-clause-regions c = regions_end
