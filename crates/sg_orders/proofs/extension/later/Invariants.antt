use Rattle.sg_orders.proofs.Later.{LaterTo}
use Rattle.sg_orders.proofs.extension.later.Given as goal

abbrev pub invariant-loop-b : goal.invariant-loop-b
invariant-loop-b l = LaterTo l.layers l.relation l.a l.b

abbrev pub invariant-loop-a : goal.invariant-loop-a
invariant-loop-a l = LaterTo l.layers l.relation l.a 0
