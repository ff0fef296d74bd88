use Rattle.std.proofs.Common.{ℕ, suc, ◌≤◌, List, length}
use Rattle.sg_sets.specs.Layers.{IsLayer, AreLayers}
use Rattle.sg_sets.specs.Members.{missing_of}
use Rattle.sg_sets.specs.Paths.{Leads}
use Rattle.sg_sets.specs.Rows.{Holds}
use Rattle.sg_sets.proofs.relation.Relation.layers.Given as goal

abbrev pub invariant-loop-alloc : goal.invariant-loop-alloc
invariant-loop-alloc l = record {
  layer : IsLayer (Holds l.self) l.goal (length l.self) (suc (length l.layers.items)) l.layer;
  layers : AreLayers (Holds l.self) l.goal (length l.self) l.layers.items;
  shortest : (via : List ℕ) → Leads (Holds l.self) l.start via l.goal → length l.layers.items ≤ length via;
}

abbrev pub decreases-loop-alloc : goal.decreases-loop-alloc
decreases-loop-alloc l = missing_of l.layer
