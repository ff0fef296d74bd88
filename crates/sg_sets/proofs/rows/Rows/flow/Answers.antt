use Rattle.sg_sets.proofs.FlowLemmas.{flows-none, flows-then, flagged-filled, Holds-reaches}
use Rattle.sg_sets.proofs.rows.Rows.flow.Goals as goal

pub loop-init : goal.loop-init
loop-init c = record { flows = flows-none c.args.links.now c.args.self.now; flagged = flagged-filled c.args.links.now c.args.self.now.rows c.filled-was.result c.filled-was.ensures }

pub loop-preserved : goal.loop-preserved
loop-preserved c = record {
  flows = flows-then c.args.links.now c.args.self.now c.loop.self c.flow_both.new.self c.loop.invariant.flows c.flow_both.ensures.flows;
  flagged = rw c.loop-test.true at c.flow_both.ensures.flagged;
}

pub returns-clause-flows : goal.returns-clause-flows
returns-clause-flows c =
    let settled = rw c.loop-test.false at c.flow_both.ensures.settled in
    let flows = flows-then c.args.links.now c.args.self.now c.loop.self c.flow_both.new.self c.loop.invariant.flows c.flow_both.ensures.flows in
    λ x y. (
      flows.sound x y,
      λ h. Holds-reaches c.args.links.now c.flow_both.new.self.rows settled h.0 x y h.2 (flows.keeps h.0 y h.1),
    )
