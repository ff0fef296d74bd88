use Rattle.std.proofs.Common.{[], take, map}
use Rattle.sg_kinds.specs.LexemeCode.{acts}
use Rattle.sg_kinds.specs.LexemeView.{instruction_of}
use Rattle.sg_patterns.specs.Programs.{Holds}
use Rattle.sg_patterns.proofs.program.Program.new.Given as goal

abbrev pub invariant-loop-step : goal.invariant-loop-step
invariant-loop-step l = Holds l.building (acts (map instruction_of (take l.step-index l.step-items)) [])
