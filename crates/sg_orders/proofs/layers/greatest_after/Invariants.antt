use Rattle.std.proofs.Common.{◌-◌, length}
use Rattle.sg_orders.proofs.Least.{IsGreatestTo}
use Rattle.sg_orders.proofs.layers.greatest_after.Given as goal

abbrev pub invariant-loop-b : goal.invariant-loop-b
invariant-loop-b l = IsGreatestTo l.relation l.a l.layers l.from l.greatest

abbrev pub decreases-loop-b : goal.decreases-loop-b
decreases-loop-b l = length l.relation - l.from
