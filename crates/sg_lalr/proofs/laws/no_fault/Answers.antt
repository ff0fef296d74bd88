use Rattle.sg_lalr.proofs.FaultLaws.{no_fault}
use Rattle.sg_lalr.proofs.laws.no_fault.Goals as goal

pub returns : goal.returns
returns c = no_fault
