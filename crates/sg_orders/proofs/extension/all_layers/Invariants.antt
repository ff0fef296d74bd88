use Rattle.sg_orders.proofs.Layerings.{LayeringsTo}
use Rattle.sg_orders.proofs.extension.all_layers.Given as goal

abbrev pub invariant-loop-place : goal.invariant-loop-place
invariant-loop-place l = LayeringsTo l.rules l.all.items l.place
