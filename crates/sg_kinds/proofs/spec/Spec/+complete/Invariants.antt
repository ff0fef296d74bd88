use Rattle.std.proofs.Common.{◌*◌, ◌+◌}
use Rattle.sg_kinds.specs.Completing.{completing_within}
use Rattle.sg_kinds.proofs.Completed.{IsMade}
use Rattle.sg_kinds.proofs.spec.Spec.+complete.Given as goal

abbrev pub decreases-complete : goal.decreases-complete
decreases-complete l = 4 * l.room

abbrev pub decreases-over : goal.decreases-over
decreases-over l = 4 * l.room + 3

abbrev pub decreases-complete_all : goal.decreases-complete_all
decreases-complete_all l = 4 * l.room + 2

abbrev pub decreases-one_element : goal.decreases-one_element
decreases-one_element l = 4 * l.room + 3

abbrev pub invariant-complete_all-loop-p : goal.invariant-complete_all-loop-p
invariant-complete_all-loop-p l = IsMade (completing_within l.self l.room) l.phyla l.kids.items l.p-index
