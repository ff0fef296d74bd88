use Rattle.std.specs.Prelude.{◌≡◌, ℕ, suc, ◌<◌, false}
use Rattle.sg_orders.specs.SeatRows.{gives_in}
use Rattle.sg_orders.proofs.seats.belongs.Given as goal

abbrev pub invariant-loop-earlier : goal.invariant-loop-earlier
invariant-loop-earlier l = (i : ℕ) → i < l.earlier → gives_in l.attrs l.visits l.places l.place (suc i) ≡ false
