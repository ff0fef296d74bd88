use Rattle.sg_orders.proofs.Owns.{OwnedTo}
use Rattle.sg_orders.proofs.owning.owned.Given as goal

abbrev pub invariant-loop-place : goal.invariant-loop-place
invariant-loop-place l = OwnedTo l.rules l.owned.items l.place
