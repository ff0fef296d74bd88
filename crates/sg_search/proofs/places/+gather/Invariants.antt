use Rattle.std.proofs.Common.{◌≡◌, Some}
use Rattle.sg_kinds.specs.Places.{Place, sub}
use Rattle.sg_kinds.specs.Terms.{Term}
use Rattle.sg_kinds.specs.Values.{Bytes}
use Rattle.sg_forest.specs.declared.node_id.NodeId.{NodeId}
use Rattle.sg_forest.specs.Trees.{Climbs, room_below}
use Rattle.sg_groves.specs.Grove.{nodes}
use Rattle.sg_groves.specs.Holds.{Holds}
use Rattle.sg_matching.specs.Transformation.{numbers_of}
use Rattle.sg_search.specs.Found.{applies_at}
use Rattle.sg_search.proofs.Gathers.{GainedTo}
use Rattle.sg_search.proofs.places.+gather.Given as goal

abbrev pub decreases-gather : goal.decreases-gather
decreases-gather l = room_below l.terms.now.trees l.n

-- the node's own place, and those of the children so far
abbrev pub invariant-loop-k : goal.invariant-loop-k
invariant-loop-k l = (name : Bytes) (root : NodeId) (t x : Term) (u : Place) → l.numbers ≡ numbers_of l.terms.spec name → Holds l.terms root t → Climbs (nodes l.terms) u l.n root → sub t u ≡ Some x
    → GainedTo l.terms root (applies_at l.terms.spec name t) u x l.k l.fn.places.items l.places.items
