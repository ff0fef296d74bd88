use Rattle.std.specs.Prelude.{◌≡◌, suc, ◌+◌, true}
use Rattle.std.proofs.Common.{sym, ap, ◌∙◌, arith}
use Rattle.sg_orders.specs.SeatRows.{gives_in}
use Rattle.sg_orders.proofs.Sought.{first_is, first_none}
use Rattle.sg_orders.proofs.seats.belongs.Goals as goal

pub returns-then-gives_from-clause-exact : goal.returns-then-gives_from-clause-exact
returns-then-gives_from-clause-exact c =
    let gives = gives_in c.args.attrs.now c.args.visits.now c.args.places.now c.args.place in
    let next : c.loop-earlier.earlier + 1 ≡ suc c.loop-earlier.earlier = omega arith in
    let here : gives (suc c.loop-earlier.earlier) ≡ true = ap gives (sym next) ∙ sym c.gives_from.ensures ∙ c.if-gives_from.true in
    next ∙ sym (first_is gives c.args.count c.loop-earlier.earlier c.loop-earlier-test.true c.loop-earlier.invariant here)

pub returns-clause-exact : goal.returns-clause-exact
returns-clause-exact c =
    let gives = gives_in c.args.attrs.now c.args.visits.now c.args.places.now c.args.place in
    sym (first_none gives c.args.count (λ k low. c.loop-earlier.invariant k (omega (arith, low, c.loop-earlier-test.false))))
