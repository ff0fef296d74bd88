use Rattle.std.proofs.Common.{◌≡◌, ◌+◌, ◌*◌, drop}
use Rattle.std.specs.List.{find}
use Rattle.sg_kinds.specs.Places.{Place}
use Rattle.sg_kinds.specs.Terms.{Term}
use Rattle.sg_kinds.specs.Values.{Bytes}
use Rattle.sg_forest.specs.declared.node_id.NodeId.{NodeId}
use Rattle.sg_forest.specs.Trees.{room_below}
use Rattle.sg_groves.specs.Grove.{spec_shown}
use Rattle.sg_groves.specs.Holds.{Holds, IsPlaced}
use Rattle.sg_select.specs.Around.{kids, parts}
use Rattle.sg_search.specs.Found.{applies_at}
use Rattle.sg_search.specs.Heads.{IsSought}
use Rattle.sg_search.proofs.next.+seek.Given as goal

abbrev pub decreases-found_at : goal.decreases-found_at
decreases-found_at l = 3 * room_below l.terms.now.trees l.n

abbrev pub decreases-found_from : goal.decreases-found_from
decreases-found_from l = 3 * room_below l.terms.now.trees l.n + 1

abbrev pub decreases-found_inside : goal.decreases-found_inside
decreases-found_inside l = 3 * room_below l.terms.now.trees l.n + 2

-- nothing was found so far
abbrev pub invariant-found_from-loop-k : goal.invariant-found_from-loop-k
invariant-found_from-loop-k l = (name : Bytes) (root : NodeId) (t x : Term) (u : Place) → IsSought l.terms.spec name l.sought → IsPlaced l.terms root t u l.n → Holds l.terms l.n x
    → find (applies_at l.terms.spec name t) (parts (spec_shown l.terms) u x l.from (drop l.from (kids x)))
    ≡ find (applies_at l.terms.spec name t) (parts (spec_shown l.terms) u x l.k (drop l.k (kids x)))
