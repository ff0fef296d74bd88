use Rattle.std.proofs.Common.{ℕ, ◌≡◌, ◌≢◌, ◌<◌, Some}
use Rattle.std.specs.List.{slice_get}
use Rattle.sg_forest.specs.declared.node_id.NodeId.{NodeId}
use Rattle.sg_forest.specs.Trees.{node_at, IsRoot}
use Rattle.sg_trials_base.proofs.forest.over.Given as goal

abbrev pub invariant-roots : goal.invariant-roots
invariant-roots g l = (k : ℕ) (id : NodeId) → k < l.i → slice_get l.kids.items k ≡ Some id → IsRoot (node_at l.forest) id

abbrev pub invariant-each : goal.invariant-each
invariant-each g l = (j k : ℕ) (id : NodeId) → j < l.i → k < l.i → slice_get l.kids.items j ≡ Some id → slice_get l.kids.items k ≡ Some id → j ≡ k

abbrev pub invariant-earlier : goal.invariant-earlier
invariant-earlier g l = (k : ℕ) (id : NodeId) → k < l.j → slice_get l.kids.items k ≡ Some id → slice_get l.kids.items l.i ≢ Some id
