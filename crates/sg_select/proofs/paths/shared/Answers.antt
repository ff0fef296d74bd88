use Rattle.std.specs.Prelude.{◌<◌, length}
use Rattle.std.proofs.Common.{arith, get_or}
use Rattle.std.proofs.lemmas.List.{get_or_default}
use Rattle.sg_select.proofs.Fronts.{shared_more}
use Rattle.sg_select.proofs.paths.shared.Goals as goal

pub loop-i-preserved : goal.loop-i-preserved
loop-i-preserved c =
    let path = c.args.path.now in
    let way = c.args.way.now in
    let i = c.loop-i.i in
    let most = c.min-most.ensures in
    let test = c.loop-i-test.true in
    let low : i < length path = omega (arith, most, test) in
    let also : i < length way = omega (arith, most, test) in
    let j = get_or path i 0 in
    let k = get_or way i 0 in
    shared_more path way i j k low also (get_or_default path i 0 j low) (get_or_default way i 0 k also) c.if-path-i.false c.loop-i.invariant
