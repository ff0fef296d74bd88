use Rattle.std.proofs.Common.{◌≡◌, ◌++◌}
use Rattle.std.specs.Prelude.{replicate}
use Rattle.sg_script.specs.declared.command.Command.TheVariants.{Redo}
use Rattle.sg_workload.proofs.workload.redo.Given as goal

-- the turns so far
abbrev pub invariant-loop-turn : goal.invariant-loop-turn
invariant-loop-turn l = l.commands.items ≡ l.initial.commands.items ++ replicate l._turn Redo
