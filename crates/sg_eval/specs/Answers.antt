-- What an evaluation answers, in two registers.
use Rattle.std.specs.Prelude.{Result, Ok, Err}
use Rattle.sg_kinds.specs.declared.marks.FaultKind.TheVariants as kind
use Rattle.sg_eval.specs.declared.answer.Answer.{Answer}
use Rattle.sg_eval.specs.declared.answer.Answer.TheVariants as answer
use Rattle.sg_eval.specs.declared.live.Live.{Live}
use Rattle.sg_eval.specs.declared.live.Live.TheVariants as live
use Rattle.sg_eval.specs.declared.live.Stop.{Stop}
use Rattle.sg_eval.specs.declared.live.Stop.TheVariants as stop

-- what stands for the value, or why there is none
abbrev pub given : Answer → Result Live Stop
given answer.False = Ok live.False
given answer.True = Ok live.True
given (answer.Number z) = Ok (live.Number z)
given (answer.Kept k) = Ok (live.Kept k)
given answer.Fuel = Err (stop.Fault kind.Fuel)
given answer.Depth = Err (stop.Fault kind.Depth)
given answer.Size = Err (stop.Fault kind.Size)
given answer.Divide = Err (stop.Fault kind.Divide)
given answer.Overflow = Err (stop.Fault kind.Overflow)
given answer.NoMatch = Err (stop.Fault kind.NoMatch)
given answer.Convert = Err (stop.Fault kind.Convert)
given answer.NoMemory = Err stop.NoMemory
