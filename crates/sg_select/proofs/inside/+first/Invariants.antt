use Rattle.std.proofs.Common.{◌≡◌, ◌+◌, ◌*◌, drop}
use Rattle.std.specs.List.{slice_get}
use Rattle.sg_kinds.specs.Places.{Place}
use Rattle.sg_kinds.specs.Terms.{Term}
use Rattle.sg_forest.specs.declared.node_id.NodeId.{NodeId}
use Rattle.sg_forest.specs.Trees.{room_below}
use Rattle.sg_groves.specs.Holds.{Holds, IsPlaced}
use Rattle.sg_groves.specs.Grove.{spec_shown}
use Rattle.sg_select.specs.Around.{kids, parts}
use Rattle.sg_select.proofs.inside.+first.Given as goal

abbrev pub decreases-first_at : goal.decreases-first_at
decreases-first_at l = 3 * room_below l.terms.now.trees l.n

abbrev pub decreases-first_from : goal.decreases-first_from
decreases-first_from l = 3 * room_below l.terms.now.trees l.n + 1

abbrev pub decreases-first_inside : goal.decreases-first_inside
decreases-first_inside l = 3 * room_below l.terms.now.trees l.n + 2

-- what is left decides
abbrev pub invariant-first_from-loop-k : goal.invariant-first_from-loop-k
invariant-first_from-loop-k l = (root : NodeId) (t x : Term) (u : Place) → IsPlaced l.terms root t u l.n → Holds l.terms l.n x
    → slice_get (parts (spec_shown l.terms) u x l.from (drop l.from (kids x))) 0 ≡ slice_get (parts (spec_shown l.terms) u x l.k (drop l.k (kids x))) 0
