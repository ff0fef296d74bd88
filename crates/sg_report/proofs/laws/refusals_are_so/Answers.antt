use Rattle.sg_report.proofs.Refusals.{refusal_is_so}
use Rattle.sg_report.proofs.laws.refusals_are_so.Goals as goal

pub returns : goal.returns
returns c = refusal_is_so
