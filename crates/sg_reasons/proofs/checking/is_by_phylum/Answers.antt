use Rattle.std.proofs.Common.{arith}
use Rattle.sg_reasons.proofs.checking.is_by_phylum.Goals as goal

pub returns-in-Some : goal.returns-in-Some
returns-in-Some c = λ yes. record { reason = c.in-Some.reason.now; stands = c.in-Some.ensures; later = omega arith; placed = c.is_placed.ensures yes }
