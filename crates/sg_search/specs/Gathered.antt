-- Nodes at places.
use Rattle.std.specs.Prelude.{◌≡◌, List, [], ◌∷◌, ◌++◌, ⊤}
use Rattle.sg_kinds.specs.Places.{Place}
use Rattle.sg_forest.specs.declared.node_id.NodeId.{NodeId}
use Rattle.sg_forest.specs.Trees.{Climbs}
use Rattle.sg_groves.specs.Grove.{Grove, nodes}

-- as many nodes as places, each at its own below a node
abbrev pub AreAt : Grove → NodeId → List NodeId → List Place → Type 0
AreAt g root [] [] = ⊤
AreAt g root (n ∷ ns) (u ∷ us) = Climbs (nodes g) u n root × AreAt g root ns us
AreAt g root ns us = ⊥

-- a list gained the nodes at these places
pub record Gained (g : Grove) (root : NodeId) (old new : List NodeId) (us : List Place) : Type 0 where
  pub more : List NodeId
  pub is : new ≡ old ++ more
  pub at : AreAt g root more us
