use Rattle.sg_dependencies.proofs.Spreads.{spread_row}
use Rattle.sg_dependencies.proofs.rounds.spread.Goals as goal

pub loop-a-preserved : goal.loop-a-preserved
loop-a-preserved c =
    spread_row c.args.spot c.args.phylum.now c.args.relation.now c.loop-a.relation c.add_part.new.self c.successors.result.now c.loop-a.a c.loop-a.invariant c.loop-a-test.true
    c.successors.ensures.row c.add_part.ensures.size c.add_part.ensures.gains
