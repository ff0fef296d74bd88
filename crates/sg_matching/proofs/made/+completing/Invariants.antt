use Rattle.std.proofs.Common.{◌*◌, ◌+◌}
use Rattle.sg_kinds.specs.Completing.{completing_within}
use Rattle.sg_matching.specs.Under.{values_under}
use Rattle.sg_matching.proofs.MadeValues.{AreLeft}
use Rattle.sg_matching.proofs.made.+completing.Given as goal

abbrev pub decreases-is_completing : goal.decreases-is_completing
decreases-is_completing l = 4 * l.room

abbrev pub decreases-is_over : goal.decreases-is_over
decreases-is_over l = 4 * l.room + 3

abbrev pub decreases-are_completing : goal.decreases-are_completing
decreases-are_completing l = 4 * l.room + 2

abbrev pub decreases-is_one_element : goal.decreases-is_one_element
decreases-is_one_element l = 4 * l.room + 3

abbrev pub invariant-are_completing-loop-k : goal.invariant-are_completing-loop-k
invariant-are_completing-loop-k l = AreLeft (completing_within l.terms.spec l.room) l.phyla (values_under l.terms l.n 0) l.k (values_under l.terms l.n l.k)
