-- What a run tells of the verdict on a specification
use Rattle.sg_kinds.specs.declared.spec.Spec.{Spec}
use Rattle.sg_kinds.specs.declared.fault.SpecFault.{SpecFault as Fault}
use Rattle.sg_faults.specs.FaultLine.{fault_line}
use Rattle.sg_load.specs.Verdict.{Verdict}
use Rattle.sg_load.specs.Verdict.Verdict.{Refused, Accepted}
use Rattle.sg_output.specs.declared.status.Status.TheVariants.{SpecFault}
use Rattle.sg_output.specs.Output.{Output, text}

-- a static fault ends the run
abbrev pub fault_told : Fault → Output
fault_told f = text SpecFault (fault_line f)

-- what follows with the record, unless the specification has a fault
abbrev pub judged : Verdict → (Spec → Output) → Output
judged (Refused f) next = fault_told f
judged (Accepted spec) next = next spec
