use Rattle.std.proofs.Common.{◌+◌, ◌-◌}
use Rattle.sg_sets.proofs.PiecesLemmas.{MovedTo}
use Rattle.sg_sets.proofs.bit_set.BitSet.union_part.Given as goal

abbrev pub invariant-loop-n : goal.invariant-loop-n
invariant-loop-n l = MovedTo l.other l.fn.self l.self l.from l.to l.at (l.from + l.count) l.grown

abbrev pub decreases-loop-n : goal.decreases-loop-n
decreases-loop-n l = l.from + l.count - l.at
