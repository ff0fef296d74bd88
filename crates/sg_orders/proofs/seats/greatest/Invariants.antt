use Rattle.std.specs.Prelude.{◌≡◌, take}
use Rattle.sg_kinds.specs.Visits.{greatest}
use Rattle.sg_orders.proofs.seats.greatest.Given as goal

abbrev pub invariant-loop-number : goal.invariant-loop-number
invariant-loop-number l = l.greatest ≡ greatest (take l.number-index l.numbers)
