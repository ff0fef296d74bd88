use Rattle.std.proofs.Common.{◌≡◌, ◌++◌, take}
use Rattle.sg_faults.specs.FaultLine.{spaced, vertex_word}
use Rattle.sg_faults.proofs.cycle.write_cycle.Given as goal

abbrev pub invariant-loop-vertex : goal.invariant-loop-vertex
invariant-loop-vertex l = l.out.items ≡ l.initial.out.items ++ spaced vertex_word (take l.vertex-index l.vertex-items)
