use Rattle.std.proofs.Common.{◌≡◌, map, take}
use Rattle.sg_kinds.specs.ValueOf.{value_of}
use Rattle.sg_forest.specs.Trees.{room_below}
use Rattle.sg_build.proofs.Told.{kids_in, the_term}
use Rattle.sg_build.proofs.out.+value_out.Given as goal

abbrev pub decreases-value_out : goal.decreases-value_out
decreases-value_out l = room_below l.terms.now.trees l.n

abbrev pub invariant-loop-k : goal.invariant-loop-k
invariant-loop-k l = l.kids.items ≡ map value_of (take l.k (kids_in (the_term l.terms l.n)))
