use Rattle.std.proofs.Common.{◌≡◌, sym, ap, arith}
use Rattle.sg_lalr.specs.Automaton.{move_at}
use Rattle.sg_lalr.proofs.PlaceLemmas.{target-at}
use Rattle.sg_lalr.proofs.places.move_on.Goals as goal
use Rattle.sg_lalr.proofs.places.move_on.Goals.{else-at-row-via-then-at-row+else-row-at, else-at-row-via-else-at-row}

pub returns-then-row-at-clause-some : goal.returns-then-row-at-clause-some
returns-then-row-at-clause-some c = (c.place_of_move-at.result, omega arith, omega arith, sym (target-at c.args.row.now c.args.x c.place_of_move-at.result c.requires (omega arith) (omega arith)))

pub returns-else-at-row-clause-none : goal.returns-else-at-row-clause-none
returns-else-at-row-clause-none c =
    let row = c.args.row.now in
    let at = c.place_of_move-at.result in
    λ k l is.
    let e : k ≡ at = c.place_of_move-at.ensures k l is in
    let same = ap (λ j. (move_at row j).symbol) e in
    elim c.else-at-row.branch [
      | else-at-row-via-then-at-row+else-row-at w ↦ (let f = w.if-row-at.false in omega (arith, same, is, f))
      | else-at-row-via-else-at-row w ↦ (let f = w.if-at-row.false in omega (arith, l, e, f))
    ]
