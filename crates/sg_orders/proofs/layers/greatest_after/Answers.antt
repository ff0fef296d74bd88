use Rattle.std.proofs.Common.{subst}
use Rattle.sg_sets.specs.Members.{IsNext}
use Rattle.sg_orders.proofs.Least.{greatest_next}
use Rattle.sg_orders.proofs.layers.greatest_after.Goals as goal

pub loop-b-preserved : goal.loop-b-preserved
loop-b-preserved c =
    let next = subst (λ row. IsNext row c.loop-b.from c.in-Some.b) c.successors.ensures.row c.in-Some.ensures.least in
    greatest_next c.args.relation.now c.args.a c.args.layers.now c.loop-b.from c.in-Some.b c.loop-b.greatest c.max-greatest.result c.loop-b.invariant next c.max-greatest.ensures
