use Rattle.sg_ast.specs.View.{trees_of}
use Rattle.sg_uses.proofs.NotedLaws.{unknown_slot, twice_slot, arity_slot}
use Rattle.sg_uses.proofs.walked.walked.Goals as goal

pub returns-clause-unknown : goal.returns-clause-unknown
returns-clause-unknown c = unknown_slot c.args.names.now (trees_of c.args.decls.now) c.in_ok-found.found c.in_ok-found.ensures

pub returns-clause-twice : goal.returns-clause-twice
returns-clause-twice c = twice_slot c.args.names.now (trees_of c.args.decls.now) c.in_ok-found.found c.in_ok-found.ensures

pub returns-clause-arity : goal.returns-clause-arity
returns-clause-arity c = arity_slot c.args.names.now (trees_of c.args.decls.now) c.in_ok-found.found c.in_ok-found.ensures
