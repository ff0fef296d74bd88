use Rattle.std.proofs.Common.{◌≡◌, ◌++◌, map, take}
use Rattle.sg_kinds.specs.ValueOf.{value_of}
use Rattle.sg_forest.specs.Trees.{room_below}
use Rattle.sg_build.proofs.Told.{kids_in, the_term}
use Rattle.sg_saved.proofs.Written.{spelled_values}
use Rattle.sg_saved.proofs.writing.+put_node.Given as goal

abbrev pub decreases-put_node : goal.decreases-put_node
decreases-put_node l = room_below l.terms.now.trees l.n

abbrev pub invariant-loop-k : goal.invariant-loop-k
invariant-loop-k l = l.out.items ≡ l.initial.out.items ++ spelled_values l.terms.spec (map value_of (take l.k (kids_in (the_term l.terms l.n))))
