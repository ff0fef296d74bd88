use Rattle.std.proofs.Common.{arith}
use Rattle.sg_text.proofs.Scans.{value_of-more-le}
use Rattle.sg_text.proofs.forms.value.Goals as goal

pub returns-then-value-digit-clause-small : goal.returns-then-value-digit-clause-small
returns-then-value-digit-clause-small c =
    λ small. absurd (omega (arith, value_of-more-le c.args.digits.now c.loop-digit.digit-index c.loop-digit-test.true))
