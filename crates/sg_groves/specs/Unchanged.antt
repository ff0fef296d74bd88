-- What stays where only stored values change.
use Rattle.std.specs.Prelude.{◌≡◌, ℕ, length, Some, None, slice_get}
use Rattle.sg_pool.specs.Pools.{IsGrown}
use Rattle.sg_forest.specs.declared.node_id.NodeId.{NodeId}
use Rattle.sg_forest.specs.Node.{Node}
use Rattle.sg_forest.specs.Trees.{room_below}
use Rattle.sg_forest.specs.Steps.{KeepsShape}
use Rattle.sg_groves.specs.declared.kind.Kind.{Kind}
use Rattle.sg_groves.specs.declared.part.Part.{Part}
use Rattle.sg_groves.specs.Grove.{Grove, nodes}

-- a part has the scheme number and the mark of another, and its values but those of some slots; a leaf keeps its value
pub record KeepsPart (kind : Kind) (old new : Part) (changed : ℕ → Type 0) : Type 0 where
  pub scheme : new.scheme ≡ old.scheme
  pub elided : new.elided ≡ old.elided
  pub count : length new.values ≡ length old.values
  pub others : (slot : ℕ) → (changed slot → ⊥) → slice_get new.values slot ≡ slice_get old.values slot
  pub leaf : kind.op ≡ None → new.values ≡ old.values

-- nothing differs but stored values of some slots of some nodes, and the pool has grown
pub record OnlyStored (old new : Grove) (changed : NodeId → ℕ → Type 0) : Type 0 where
  pub spec : new.spec ≡ old.spec
  pub view : new.view ≡ old.view
  pub pool : IsGrown old.pool new.pool
  pub shape : KeepsShape (nodes old) (nodes new)
  pub room : (n : NodeId) → room_below new.trees n ≡ room_below old.trees n
  pub parts : (n : NodeId) (x y : Node Kind Part) → nodes old n ≡ Some x → nodes new n ≡ Some y
      → KeepsPart x.label x.part y.part (changed n)
