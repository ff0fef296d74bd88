use Rattle.sg_orders.proofs.Least.{AreDoneTo}
use Rattle.sg_orders.proofs.layers.layers.Given as goal

abbrev pub invariant-loop-a : goal.invariant-loop-a
invariant-loop-a l = AreDoneTo l.attrs l.relation l.layers.items l.passed l.a

abbrev pub invariant-loop-passed : goal.invariant-loop-passed
invariant-loop-passed l = AreDoneTo l.attrs l.relation l.layers.items l.passed 0
