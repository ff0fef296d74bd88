use Rattle.sg_orders.proofs.Later.{AllLaterTo}
use Rattle.sg_orders.proofs.extension.all_later.Given as goal

abbrev pub invariant-loop-row : goal.invariant-loop-row
invariant-loop-row l = AllLaterTo l.layers l.all.items l.row-index
