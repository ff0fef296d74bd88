-- How a run ends
use Rattle.std.specs.Prelude.{ℕ, ⊤, Result, Ok, Err}
use Rattle.sg_outside.specs.declared.sink.SinkError.{SinkError}
use Rattle.sg_outside.specs.declared.sink.SinkError.TheVariants.{Failed, NoMemory}
use Rattle.sg_explain.specs.declared.ending.Ending.{Ending}
use Rattle.sg_explain.specs.declared.ending.Ending.TheVariants.{Done, Memory, Usage, ReadFault, SpecFault, SinkFault}

-- the number with which the program ends
abbrev pub number_of : Ending → ℕ
number_of Done = 0
number_of Memory = 1
number_of Usage = 2
number_of ReadFault = 3
number_of SpecFault = 4
number_of SinkFault = 6

-- the run came to an end of its own, neither by want of memory nor by a fault of the sink
abbrev pub IsEnd : Ending → Type 0
IsEnd Memory = ⊥
IsEnd SinkFault = ⊥
IsEnd Done = ⊤
IsEnd Usage = ⊤
IsEnd ReadFault = ⊤
IsEnd SpecFault = ⊤

-- how a run ends after the put of a text with which it is to end so
abbrev pub put_ending : Result (Unit {0}) SinkError → Ending → Ending
put_ending (Ok x) ending = ending
put_ending (Err Failed) ending = SinkFault
put_ending (Err NoMemory) ending = Memory
