-- What a replacement is asked.
use Rattle.std.specs.Prelude.{[], ◌∷◌}
use Rattle.sg_kinds.specs.Terms.{Term}
use Rattle.sg_kinds.specs.Places.{Place}
use Rattle.sg_forest.specs.declared.node_id.NodeId.{NodeId}
use Rattle.sg_groves.specs.Grove.{Grove}
use Rattle.sg_groves.specs.Holds.{Holds, IsPlaced}
use Rattle.sg_groves.specs.IsRight.{IsRight}

-- the root of a right tree and the term that it holds, the place of a node in it, and the term of the tree that comes there
pub record IsAsked (g : Grove) (at detached root : NodeId) (t : Term) (u : Place) (s : Term) : Type 0 where
  pub placed : IsPlaced g root t u at
  pub right : IsRight g root
  pub part : Holds g detached s

-- the root of the tree then
abbrev pub root_then : Place → NodeId → NodeId → NodeId
root_then [] root detached = detached
root_then (k ∷ u) root detached = root
