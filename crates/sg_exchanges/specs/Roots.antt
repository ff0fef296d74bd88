-- The roots of a forest.
use Rattle.std.specs.Prelude.{◌≡◌, ◌≤◌, ◌↔◌, ℕ, ◌==◌, List}
use Rattle.std.specs.List.{count_by}
use Rattle.sg_forest.specs.declared.node_id.NodeId.{NodeId}
use Rattle.sg_forest.specs.Trees.{IsRoot, IsInside}
use Rattle.sg_groves.specs.Grove.{Grove, nodes}
use Rattle.sg_pool.specs.Pools.{IsGrown}

-- how often a node stands in a list
abbrev pub times : NodeId → List NodeId → ℕ
times n ns = count_by (λ m. m.key == n.key) ns

-- the roots are exactly these nodes, no two of them the same
pub record AreTheRoots (g : Grove) (ns : List NodeId) : Type 0 where
  pub once : (n : NodeId) → times n ns ≤ 1
  pub are : (n : NodeId) → IsRoot (nodes g) n ↔ (times n ns ≡ 1)

-- the tree of a root is the same in another grove, whose pool may have grown
pub record KeepsTree (old new : Grove) (root : NodeId) : Type 0 where
  pub spec : new.spec ≡ old.spec
  pub view : new.view ≡ old.view
  pub pool : IsGrown old.pool new.pool
  pub nodes : (n : NodeId) → IsInside (nodes old) n root → nodes new n ≡ nodes old n

-- the trees of some roots are gone, and nothing else changed
pub record Drops (old new : Grove) (gone : List NodeId) : Type 0 where
  pub spec : new.spec ≡ old.spec
  pub view : new.view ≡ old.view
  pub pool : new.pool ≡ old.pool
  pub keeps : (n : NodeId) → IsRoot (nodes old) n → times n gone ≡ 0 → KeepsTree old new n
  pub roots : (n : NodeId) → IsRoot (nodes new) n ↔ (IsRoot (nodes old) n × (times n gone ≡ 0))
