use Rattle.std.specs.Prelude.{◌≡◌, false, filter, find, is_some, nat_le, slice_index}
use Rattle.sg_kinds.specs.Instances.{below}
use Rattle.sg_orders.specs.SeatRows.{is_given}
use Rattle.sg_orders.proofs.seats.gives_from.Given as goal

abbrev pub invariant-loop-a : goal.invariant-loop-a
invariant-loop-a l = is_some (find (λ a. nat_le l.place (slice_index l.places a)) (filter (is_given l.attrs l.visits l.visit) (below l.a))) ≡ false
