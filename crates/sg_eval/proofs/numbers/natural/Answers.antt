use Rattle.std.proofs.Common.{arith}
use Rattle.sg_eval.proofs.Converted.{goes_on}
use Rattle.sg_eval.proofs.numbers.natural.Goals as goal
use Rattle.sg_eval.proofs.numbers.natural.Goals.{then-d-lt48-via-then-d-lt48, then-d-lt48-via-else-d-lt48+then-d-gt57, then-d-lt48-via-else-d-lt48+else-d-gt57+then-n}

pub returns-then-d-lt48 : goal.returns-then-d-lt48
returns-then-d-lt48 c = λ m h.
    let t = goes_on c.loop-d.n c.loop-d.d-index m c.args.digits.now c.loop-d-test.true c.loop-d.invariant.rest h in
    elim c.then-d-lt48.branch [ then-d-lt48-via-then-d-lt48 w ↦ omega (arith, t) | then-d-lt48-via-else-d-lt48+then-d-gt57 w ↦ omega (arith, t) | then-d-lt48-via-else-d-lt48+else-d-gt57+then-n w ↦ omega (arith, t) ]
