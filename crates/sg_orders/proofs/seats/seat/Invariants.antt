use Rattle.std.specs.Prelude.{◌≡◌, ◌+◌, map, filter, slice_index}
use Rattle.sg_kinds.specs.Instances.{below}
use Rattle.sg_kinds.specs.Visits.{least}
use Rattle.sg_orders.specs.SeatRows.{is_given}
use Rattle.sg_orders.proofs.seats.seat.Given as goal

abbrev pub invariant-loop-a : goal.invariant-loop-a
invariant-loop-a l = l.least ≡ least (map (λ a. slice_index l.places (l.first + a)) (filter (is_given l.attrs l.visits l.visit) (below l.a)))
