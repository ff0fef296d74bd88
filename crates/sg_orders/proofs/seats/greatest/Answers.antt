use Rattle.std.specs.Prelude.{◌≡◌, ◌+◌, max, take}
use Rattle.std.proofs.Common.{ap, ◌∙◌, arith, get_or}
use Rattle.std.proofs.lemmas.List.{take_more}
use Rattle.sg_kinds.specs.Visits.{greatest}
use Rattle.sg_orders.proofs.Pairs.{greatest_push}
use Rattle.sg_orders.proofs.seats.greatest.Goals as goal
use Rattle.sg_orders.proofs.seats.greatest.Goals.{then-greatest-number, else-greatest-number}

pub loop-number-preserved : goal.loop-number-preserved
loop-number-preserved c =
    let numbers = c.args.numbers.now in
    let i = c.loop-number.number-index in
    let was : c.loop-number.greatest ≡ greatest (take i numbers) = c.loop-number.invariant in
    let next : greatest (take (i + 1) numbers) ≡ max (greatest (take i numbers)) (get_or numbers i 0) = ap greatest (take_more numbers i 0 c.loop-number-test.true) ∙ greatest_push (take i numbers) (get_or numbers i 0) in
    let done : c.if-greatest-number.greatest ≡ greatest (take (i + 1) numbers) = elim c.if-greatest-number.branch [
      | then-greatest-number w ↦ let less = w.if-greatest-number.true in omega (arith, was, next, less, w.greatest-is)
      | else-greatest-number w ↦ let more = w.if-greatest-number.false in omega (arith, was, next, more, w.greatest-is)
    ] in
    done
