use Rattle.std.specs.Prelude.{nat_le, length, slice_index}
use Rattle.std.proofs.Common.{sym, ◌∙◌, get_or}
use Rattle.std.proofs.lemmas.Bool.{le-leb, lt-leb, and_left, and_right}
use Rattle.sg_orders.specs.SeatRows.{is_given}
use Rattle.sg_orders.proofs.Sought.{sought_here, sought_more}
use Rattle.sg_orders.proofs.seats.gives_from.Goals as goal
use Rattle.sg_orders.proofs.seats.gives_from.Goals.{else-is_given-via-then-is_given+else-place-places, else-is_given-via-else-is_given}

pub returns-then-place-places : goal.returns-then-place-places
returns-then-place-places c =
    sym (sought_here (is_given c.args.attrs.now c.args.visits.now c.args.visit) (λ a. nat_le c.args.place (slice_index c.args.places.now a)) (length c.args.attrs.now) c.loop-a.a c.loop-a-test.true
    (sym c.is_given.ensures ∙ c.if-is_given.true) (le-leb c.args.place (get_or c.args.places.now c.loop-a.a 0) c.if-place-places.true))

pub loop-a-preserved : goal.loop-a-preserved
loop-a-preserved c =
    let given = is_given c.args.attrs.now c.args.visits.now c.args.visit in
    let a = c.loop-a.a in
    let place = nat_le c.args.place (slice_index c.args.places.now a) in
    sought_more given (λ b. nat_le c.args.place (slice_index c.args.places.now b)) a c.loop-a.invariant (elim c.else-is_given.branch [
      | else-is_given-via-then-is_given+else-place-places w ↦ and_right (given a) place (lt-leb c.args.place (get_or c.args.places.now a 0) w.if-place-places.false)
      | else-is_given-via-else-is_given w ↦ and_left (given a) place (sym c.is_given.ensures ∙ w.if-is_given.false)
    ])
