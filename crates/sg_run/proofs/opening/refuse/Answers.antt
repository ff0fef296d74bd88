use Rattle.std.proofs.Common.{◌∙◌, refl, arith}
use Rattle.sg_faults.specs.FaultLine.{fault_line}
use Rattle.sg_output.specs.declared.status.Status.TheVariants.{SpecFault}
use Rattle.sg_output.specs.OutputOf.{fault_told}
use Rattle.sg_output.proofs.Endings.{ends_text, finished_as, ends_early}
use Rattle.sg_run.proofs.opening.refuse.Goals as goal

pub returns-in-Ok : goal.returns-in-Ok
returns-in-Ok g c = λ shelf n. ends_text shelf _ _ n SpecFault _ (fault_line c.args.fault.now) (finished_as _ _ _ (fault_line c.args.fault.now) SpecFault _ (c.as_slice.ensures.value ∙ c.in-Ok.ensures) c.finish.ensures)

pub returns-in-Err : goal.returns-in-Err
returns-in-Err g c = λ shelf n. ends_early shelf _ n (fault_told c.args.fault.now) (record { taken = refl; asked = omega arith })
