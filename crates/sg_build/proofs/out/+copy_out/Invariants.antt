use Rattle.std.proofs.Common.{◌≡◌, take}
use Rattle.sg_forest.specs.Trees.{room_below}
use Rattle.sg_build.proofs.Told.{kids_in, the_term}
use Rattle.sg_build.proofs.out.+copy_out.Given as goal

abbrev pub decreases-copy_out : goal.decreases-copy_out
decreases-copy_out l = room_below l.terms.now.trees l.n

abbrev pub invariant-loop-k : goal.invariant-loop-k
invariant-loop-k l = l.kids.items ≡ take l.k (kids_in (the_term l.terms l.n))
