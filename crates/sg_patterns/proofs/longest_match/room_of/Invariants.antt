use Rattle.std.proofs.Common.{◌≡◌, ℕ, ◌<◌, ◌≤◌, length, Some}
use Rattle.std.specs.Prelude.{slice_get}
use Rattle.sg_patterns.specs.declared.program.Program.{Program}
use Rattle.sg_patterns.proofs.longest_match.room_of.Given as goal

abbrev pub invariant-loop-program : goal.invariant-loop-program
invariant-loop-program l = (k : ℕ) (p : Program) → k < l.program-index → slice_get l.programs k ≡ Some p → length p.nodes.items ≤ l.room
