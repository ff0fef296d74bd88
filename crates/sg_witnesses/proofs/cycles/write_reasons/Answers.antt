use Rattle.std.proofs.Common.{◌≡◌, ◌<◌, ◌≤◌, sym, get_or, length, arith}
use Rattle.sg_witnesses.proofs.Told.{reason_written, reasons_written}
use Rattle.sg_witnesses.proofs.cycles.write_reasons.Goals as goal

pub loop-place-preserved : goal.loop-place-preserved
loop-place-preserved c =
    let rs = c.args.reasons.now in
    let i = c.loop-place.place in
    let r = c.index-reasons-place.result in
    let at : get_or rs i r ≡ r = sym c.index-reasons-place.is in
    let inside : i < length rs = c.loop-place-test.true in
    reason_written c.args.spec.now c.args.places.now i rs r r c.loop-place.out.items c.write_reason.new.out.items _ inside at c.loop-place.invariant c.in_ok-write_reason.ensures

pub returns : goal.returns
returns c =
    let rs = c.args.reasons.now in
    let past : length rs ≤ c.loop-place.place = omega arith in
    reasons_written c.args.spec.now c.args.places.now c.loop-place.place rs c.loop-place.out.items _ past c.loop-place.invariant
