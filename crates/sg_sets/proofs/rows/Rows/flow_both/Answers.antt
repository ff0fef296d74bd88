use Rattle.sg_sets.proofs.FlowLemmas.{flows-then}
use Rattle.sg_sets.proofs.rows.Rows.flow_both.Goals as goal

pub returns-then-flow_forth-clause-flows : goal.returns-then-flow_forth-clause-flows
returns-then-flow_forth-clause-flows c = flows-then c.args.links.now c.args.self.now c.flow_forth.new.self c.flow_back.new.self c.flow_forth.ensures.flows c.flow_back.ensures.flows
