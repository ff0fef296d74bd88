use Rattle.std.specs.Prelude.{◌≡◌, ◌+◌, map, min, filter, slice_index, unwrap_or, Some}
use Rattle.std.proofs.Common.{sym, ap, ◌∙◌, get_or}
use Rattle.std.proofs.lemmas.List.{map_push}
use Rattle.sg_kinds.specs.Instances.{below}
use Rattle.sg_kinds.specs.Visits.{least}
use Rattle.sg_orders.specs.SeatRows.{is_given}
use Rattle.sg_orders.proofs.Sought.{filter_yes, filter_no, least_push}
use Rattle.sg_orders.proofs.seats.seat.Goals as goal
use Rattle.sg_orders.proofs.seats.seat.Goals.{then-is_given, else-is_given}

pub loop-a-preserved : goal.loop-a-preserved
loop-a-preserved c =
    let given = is_given c.args.attrs.now c.args.visits.now c.args.visit in
    let places = c.args.places.now in
    let a = c.loop-a.a in
    let first = c.args.first in
    let done : c.if-is_given.least ≡ least (map (λ b. slice_index places (first + b)) (filter given (below (a + 1)))) = elim c.if-is_given.branch [
      | then-is_given w ↦
          w.least-is ∙ ap (λ n. Some n) (w.lesser.ensures ∙ ap (λ o. min (get_or places (first + a) 0) (unwrap_or o (get_or places (first + a) 0))) c.loop-a.invariant)
          ∙ sym (ap (λ xs. least (map (λ b. slice_index places (first + b)) xs)) (filter_yes given a (sym c.is_given.ensures ∙ w.if-is_given.true))
          ∙ ap least (map_push (λ b. slice_index places (first + b)) (filter given (below a)) a) ∙ least_push (map (λ b. slice_index places (first + b)) (filter given (below a))) (slice_index places (first + a)))
      | else-is_given w ↦ w.least-is ∙ c.loop-a.invariant ∙ sym (ap (λ xs. least (map (λ b. slice_index places (first + b)) xs)) (filter_no given a (sym c.is_given.ensures ∙ w.if-is_given.false)))
    ] in
    done
