use Rattle.std.proofs.Common.{◌≤◌, ◌*◌, ◌+◌, take}
use Rattle.sg_forest.specs.Trees.{room_below}
use Rattle.sg_build.proofs.Told.{the_term}
use Rattle.sg_select.specs.Around.{kids}
use Rattle.sg_search.specs.Made.{AreMade}
use Rattle.sg_search.proofs.replaced.+made.Given as goal

abbrev pub decreases-made : goal.decreases-made
decreases-made l = 2 * room_below l.terms.now.trees l.n + 1

abbrev pub decreases-below : goal.decreases-below
decreases-below l = 2 * room_below l.terms.now.trees l.n

abbrev pub invariant-below-loop-k : goal.invariant-below-loop-k
invariant-below-loop-k l = record {
  fewer : l.left ≤ l.fn.left;
  row : AreMade l.terms.spec l.name (take l.k (kids (the_term l.terms l.n))) l.fn.left l.left l.row;
}
