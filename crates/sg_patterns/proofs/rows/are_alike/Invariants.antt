use Rattle.std.proofs.Common.{◌≡◌, ℕ, ◌<◌, Some}
use Rattle.std.specs.Prelude.{slice_get}
use Rattle.sg_patterns.specs.declared.program.Node.{Node}
use Rattle.sg_patterns.specs.Rows.{IsAlike}
use Rattle.sg_patterns.proofs.rows.are_alike.Given as goal

abbrev pub invariant-loop-k : goal.invariant-loop-k
invariant-loop-k l = (j : ℕ) (x : Node) → j < l.k → slice_get l.program.nodes.items j ≡ Some x → IsAlike x l.low l.high
