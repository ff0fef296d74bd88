use Rattle.std.proofs.Common.{refl, arith}
use Rattle.std.proofs.lemmas.Option.{slice_get_read}
use Rattle.sg_reasons.proofs.Steps.{first_more, first_all}
use Rattle.sg_reasons.proofs.checking.are_reasons.Goals as goal

pub loop-place-init : goal.loop-place-init
loop-place-init c = λ i r low at. absurd (omega (arith, low))

pub loop-place-preserved : goal.loop-place-preserved
loop-place-preserved c =
    let reasons = c.args.reasons.now in
    let i = c.loop-place.place in
    let r = c.index-reasons-place.result in
    first_more c.args.scene.now.rules.now reasons i r c.loop-place.invariant (slice_get_read reasons _ i r refl c.loop-place-test.true c.index-reasons-place.is) (c.is_reason.ensures c.if-is_reason.true)

pub returns : goal.returns
returns c = λ yes. first_all c.args.scene.now.rules.now c.args.reasons.now c.loop-place.place (omega arith) c.loop-place.invariant
