use Rattle.sg_lalr.proofs.FaultLaws.{one_fault}
use Rattle.sg_lalr.proofs.laws.one_fault.Goals as goal

pub returns : goal.returns
returns c = one_fault
