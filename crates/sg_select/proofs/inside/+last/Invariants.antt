use Rattle.std.proofs.Common.{◌≡◌, ◌≤◌, ◌+◌, ◌*◌, take}
use Rattle.std.specs.Prelude.{None}
use Rattle.std.specs.List.{last_or}
use Rattle.sg_kinds.specs.Places.{Place}
use Rattle.sg_kinds.specs.Terms.{Term}
use Rattle.sg_forest.specs.declared.node_id.NodeId.{NodeId}
use Rattle.sg_forest.specs.Trees.{room_below}
use Rattle.sg_groves.specs.Holds.{Holds, IsPlaced}
use Rattle.sg_groves.specs.Grove.{spec_shown}
use Rattle.sg_select.specs.Around.{kids, parts}
use Rattle.sg_select.proofs.inside.+last.Given as goal

abbrev pub decreases-last_at : goal.decreases-last_at
decreases-last_at l = 3 * room_below l.terms.now.trees l.n

abbrev pub decreases-last_before : goal.decreases-last_before
decreases-last_before l = 3 * room_below l.terms.now.trees l.n + 1

abbrev pub decreases-last_inside : goal.decreases-last_inside
decreases-last_inside l = 3 * room_below l.terms.now.trees l.n + 2

-- what is left decides
abbrev pub invariant-last_before-loop-left : goal.invariant-last_before-loop-left
invariant-last_before-loop-left l = record {
  low : l.left ≤ l.to;
  leads : (root : NodeId) (t x : Term) (u : Place) → IsPlaced l.terms root t u l.n → Holds l.terms l.n x
      → last_or None (parts (spec_shown l.terms) u x 0 (take l.to (kids x))) ≡ last_or None (parts (spec_shown l.terms) u x 0 (take l.left (kids x)));
}

abbrev pub decreases-last_before-loop-left : goal.decreases-last_before-loop-left
decreases-last_before-loop-left l = l.left
