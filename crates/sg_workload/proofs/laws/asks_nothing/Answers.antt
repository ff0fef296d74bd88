use Rattle.sg_workload.proofs.Quiet.{quiet}
use Rattle.sg_workload.proofs.laws.asks_nothing.Goals as goal

pub returns : goal.returns
returns c = quiet
