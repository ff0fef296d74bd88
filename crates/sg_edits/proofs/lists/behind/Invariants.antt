use Rattle.sg_kinds.specs.Places.{Place}
use Rattle.sg_kinds.specs.Terms.{Term}
use Rattle.sg_forest.specs.declared.node_id.NodeId.{NodeId}
use Rattle.sg_forest.specs.Trees.{IsLive}
use Rattle.sg_groves.specs.Grove.{nodes}
use Rattle.sg_groves.specs.Holds.{Holds, IsPlaced}
use Rattle.sg_edits.specs.Edits.{behind_at, rest_behind}
use Rattle.sg_edits.proofs.lists.behind.Given as goal

abbrev pub invariant-loop-step : goal.invariant-loop-step
invariant-loop-step l = record {
  live : IsLive (nodes l.terms) l.at;
  placed : (root : NodeId) (t : Term) (u : Place) → IsPlaced l.terms root t u l.fn.n → IsPlaced l.terms root t (behind_at l._step u) l.at;
  holds : (x : Term) → Holds l.terms l.fn.n x → Holds l.terms l.at (rest_behind l._step x);
}
