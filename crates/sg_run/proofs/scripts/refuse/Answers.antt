use Rattle.std.proofs.Common.{◌∙◌, refl, arith}
use Rattle.sg_output.specs.declared.status.Status.TheVariants.{ScriptFault}
use Rattle.sg_output.specs.Output.{text}
use Rattle.sg_output.specs.OutputOf.{script_fault_text}
use Rattle.sg_output.proofs.Endings.{ends_text, finished_as, ends_early}
use Rattle.sg_run.proofs.scripts.refuse.Goals as goal

pub returns-in-Ok : goal.returns-in-Ok
returns-in-Ok g c = λ shelf n. ends_text shelf _ _ n ScriptFault _ (script_fault_text c.args.fault.now) (finished_as _ _ _ (script_fault_text c.args.fault.now) ScriptFault _ (c.as_slice.ensures.value ∙ c.in-Ok.ensures) c.finish.ensures)

pub returns-in-Err : goal.returns-in-Err
returns-in-Err g c = λ shelf n. ends_early shelf _ n (text ScriptFault (script_fault_text c.args.fault.now)) (record { taken = refl; asked = omega arith })
