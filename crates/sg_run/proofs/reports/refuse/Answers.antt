use Rattle.std.proofs.Common.{◌∙◌, refl, arith}
use Rattle.sg_output.specs.declared.status.Status.TheVariants.{ReportFault}
use Rattle.sg_output.specs.Filed.{report_fault_text, refusal}
use Rattle.sg_output.proofs.Endings.{ends_text, finished_as, ends_early}
use Rattle.sg_run.proofs.reports.refuse.Goals as goal

pub returns-in-Ok : goal.returns-in-Ok
returns-in-Ok g c = λ shelf n. ends_text shelf _ _ n ReportFault _ (report_fault_text c.args.fault) (finished_as _ _ _ (report_fault_text c.args.fault) ReportFault _ (c.as_slice.ensures.value ∙ c.in-Ok.ensures) c.finish.ensures)

pub returns-in-Err : goal.returns-in-Err
returns-in-Err g c = λ shelf n. ends_early shelf _ n (refusal c.args.fault) (record { taken = refl; asked = omega arith })
