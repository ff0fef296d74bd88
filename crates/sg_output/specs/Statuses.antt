-- How a run ends
use Rattle.std.specs.Prelude.{ℕ, Result, Ok, Err}
use Rattle.sg_outside.specs.declared.sink.SinkError.{SinkError}
use Rattle.sg_outside.specs.declared.sink.SinkError.TheVariants.{Failed, NoMemory}
use Rattle.sg_output.specs.declared.status.Status.{Status}
use Rattle.sg_output.specs.declared.status.Status.TheVariants.{Done, Memory, Usage, ReadFault, SpecFault, ScriptFault, SinkFault, ReportFault}

-- the number with which the program ends
abbrev pub number_of : Status → ℕ
number_of Done = 0
number_of Memory = 1
number_of Usage = 2
number_of ReadFault = 3
number_of SpecFault = 4
number_of ScriptFault = 5
number_of SinkFault = 6
number_of ReportFault = 7

-- the run came to an end of its own, neither by want of memory nor by a fault of the sink
abbrev pub IsEnd : Status → Type 0
IsEnd Memory = ⊥
IsEnd SinkFault = ⊥
IsEnd Done = Unit {0}
IsEnd Usage = Unit {0}
IsEnd ReadFault = Unit {0}
IsEnd SpecFault = Unit {0}
IsEnd ScriptFault = Unit {0}
IsEnd ReportFault = Unit {0}

-- the run was cut short, by want of memory or by a fault of the sink
abbrev pub IsCut : Status → Type 0
IsCut Memory = Unit {0}
IsCut SinkFault = Unit {0}
IsCut Done = ⊥
IsCut Usage = ⊥
IsCut ReadFault = ⊥
IsCut SpecFault = ⊥
IsCut ScriptFault = ⊥
IsCut ReportFault = ⊥

-- the status after a put that was refused
abbrev pub sink_status : SinkError → Status
sink_status Failed = SinkFault
sink_status NoMemory = Memory

-- the status after a part of the run: an error ends it
abbrev pub ended : Result (Unit {0}) Status → Status
ended (Ok x) = Done
ended (Err status) = status
