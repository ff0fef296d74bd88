-- What new roots leave as it was.
use Rattle.std.specs.Prelude.{◌≡◌, ℕ, List, Some, None, slice_get}
use Rattle.sg_pool.specs.Pools.{IsGrown}
use Rattle.sg_forest.specs.declared.node_id.NodeId.{NodeId}
use Rattle.sg_forest.specs.Trees.{IsLive, IsRoot, IsInside}
use Rattle.sg_forest.specs.Steps.{AreDistinct}
use Rattle.sg_groves.specs.Grove.{Grove, nodes}
use Rattle.sg_groves.specs.Stored.{number_at}
use Rattle.sg_terms.specs.Found.{op_at}

-- the node is in the tree of one of these
pub record IsInOneOf (g : Grove) (roots : List NodeId) (n : NodeId) : Type 0 where
  pub place : ℕ
  pub root : NodeId
  pub at : slice_get roots place ≡ Some root
  pub inside : IsInside (nodes g) n root

-- a grove has these roots besides, no two of them the same, and their trees: each node that was there is as it was,
-- and no value of an added node's slots is known
pub record GrewBy (old new : Grove) (roots : List NodeId) : Type 0 where
  pub spec : new.spec ≡ old.spec
  pub view : new.view ≡ old.view
  pub pool : IsGrown old.pool new.pool
  pub before : (n : NodeId) → IsLive (nodes old) n → nodes new n ≡ nodes old n
  pub fresh : (k : ℕ) (n : NodeId) → slice_get roots k ≡ Some n → nodes old n ≡ None
  pub tops : (k : ℕ) (n : NodeId) → slice_get roots k ≡ Some n → IsRoot (nodes new) n
  pub once : AreDistinct roots
  pub added : (n : NodeId) → nodes old n ≡ None → IsLive (nodes new) n → IsInOneOf new roots n
  pub unknown : (n : NodeId) (op slot id : ℕ) → nodes old n ≡ None → op_at new n ≡ Some op →
      number_at new n slot ≡ Some id → id ≡ 0

-- each number that is stored in a tree is 0, but those of the leaves: no value of a slot is known
abbrev pub IsUnknown : Grove → NodeId → Type 0
IsUnknown g root = (n : NodeId) (op slot id : ℕ) → IsInside (nodes g) n root → op_at g n ≡ Some op →
    number_at g n slot ≡ Some id → id ≡ 0
