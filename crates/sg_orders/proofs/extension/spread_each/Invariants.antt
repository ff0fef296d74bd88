use Rattle.sg_orders.proofs.Later.{ExtendedTo}
use Rattle.sg_orders.proofs.extension.spread_each.Given as goal

abbrev pub invariant-loop-p : goal.invariant-loop-p
invariant-loop-p l = ExtendedTo l.frames l.fn.operators l.operators l.phyla l.p
