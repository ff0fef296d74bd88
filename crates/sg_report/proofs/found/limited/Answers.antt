use Rattle.std.proofs.lemmas.Bool.{false≢true}
use Rattle.std.proofs.Common.{refl}
use Rattle.sg_report.proofs.Reading.{within_limits, over_limits}
use Rattle.sg_report.proofs.found.limited.Goals as goal

pub returns-in-Ok : goal.returns-in-Ok
returns-in-Ok c = let small = c.in-Ok.ensures.small.0 refl in record { is = within_limits c.args.t small; small = small; same = refl }

pub returns-in-Err-clause-is : goal.returns-in-Err-clause-is
returns-in-Err-clause-is c = over_limits c.args.t (λ small. false≢true (c.in-Err.ensures.small.1 small))
