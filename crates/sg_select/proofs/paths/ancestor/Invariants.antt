use Rattle.std.proofs.Common.{◌≡◌, ◌-◌, ◌++◌, length}
use Rattle.sg_kinds.specs.Terms.{Term}
use Rattle.sg_kinds.specs.Places.{Place}
use Rattle.sg_forest.specs.declared.node_id.NodeId.{NodeId}
use Rattle.sg_forest.specs.Trees.{IsLive}
use Rattle.sg_groves.specs.Grove.{nodes}
use Rattle.sg_groves.specs.Holds.{IsPlaced}
use Rattle.sg_select.proofs.paths.ancestor.Given as goal

abbrev pub invariant-loop-step : goal.invariant-loop-step
invariant-loop-step l = record {
  live : IsLive (nodes l.terms) l.at;
  placed : (root : NodeId) (t : Term) (low u : Place) → IsPlaced l.terms root t (low ++ u) l.fn.n → length low ≡ l.fn.steps →
      (rest : Place) × (length rest ≡ l.fn.steps - l._step) × IsPlaced l.terms root t (rest ++ u) l.at;
}
