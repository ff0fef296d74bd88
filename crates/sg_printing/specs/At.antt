-- A node of a whole term, whose values are right.
use Rattle.std.specs.Prelude.{◌≡◌, Some}
use Rattle.sg_kinds.specs.Terms.{Term}
use Rattle.sg_kinds.specs.Places.{Place, sub}
use Rattle.sg_kinds.specs.Fits.{Fits}
use Rattle.sg_forest.specs.declared.node_id.NodeId.{NodeId}
use Rattle.sg_forest.specs.Trees.{Climbs}
use Rattle.sg_groves.specs.Grove.{Grove, nodes}
use Rattle.sg_states.specs.Paged.{IsWhole}

-- a node stands at a place of the term of a root, at which the term has a part
pub record IsAt (g : Grove) (root n : NodeId) (t : Term) (u : Place) (x : Term) : Type 0 where
  pub whole : IsWhole g root t
  pub fits : Fits g.spec t g.spec.root
  pub part : sub t u ≡ Some x
  pub way : Climbs (nodes g) u n root
