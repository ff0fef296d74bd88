use Rattle.sg_reports.proofs.VertexLaws.{own_vertex, argument_vertex, local_vertex}
use Rattle.sg_reports.proofs.laws.vertices_are_printed_as_numbered.Goals as goal

pub returns-clause-own : goal.returns-clause-own
returns-clause-own c = own_vertex

pub returns-clause-argument : goal.returns-clause-argument
returns-clause-argument c = argument_vertex

pub returns-clause-local : goal.returns-clause-local
returns-clause-local c = local_vertex
