use Rattle.std.proofs.Common.{◌≡◌, subst}
use Rattle.std.specs.Prelude.{OnOk}
use Rattle.sg_kinds.specs.declared.fault.SpecFault.{SpecFault}
use Rattle.sg_faults.specs.FaultLine.{fault_line}
use Rattle.sg_witnesses.proofs.cycles.expect_printed.Goals as goal

pub returns : goal.returns
returns c = subst (λ (f : SpecFault). OnOk c.expect_same.result (fault_line f ≡ fault_line c.args.fault.now)) c.in_ok-printed.ensures c.expect_same.ensures
