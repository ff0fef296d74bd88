-- When every stored value of a tree is its from-scratch value.
use Rattle.std.specs.Prelude.{◌≡◌, ℕ, Some}
use Rattle.sg_kinds.specs.Terms.{Term}
use Rattle.sg_kinds.specs.Specification.{rules_of}
use Rattle.sg_kinds.specs.Places.{Place}
use Rattle.sg_kinds.specs.Nets.{net_of}
use Rattle.sg_kinds.specs.Instances.{Site, site_of}
use Rattle.sg_kinds.specs.FromScratch.{value_in}
use Rattle.sg_forest.specs.declared.node_id.NodeId.{NodeId}
use Rattle.sg_forest.specs.Trees.{Climbs}
use Rattle.sg_groves.specs.Grove.{Grove, nodes}
use Rattle.sg_groves.specs.Stored.{value_there}
use Rattle.sg_groves.specs.Holds.{Holds}

-- the slot of the node at a place has the from-scratch value of this term
abbrev pub IsRightAt : Grove → Term → Place → NodeId → ℕ → Type 0
IsRightAt g t u n slot = value_there g n slot ≡ value_in g.spec t (record { node = u; slot = slot })

-- every slot that some equation defines has the from-scratch value of the term that the node holds
pub record IsRight (g : Grove) (n : NodeId) : Type 0 where
  pub term : Term
  pub holds : Holds g n term
  pub right : (u : Place) (m : NodeId) (slot : ℕ) (i : Site Place) → Climbs (nodes g) u m n
      → site_of (rules_of g.spec) (net_of term) (record { node = u; slot = slot }) ≡ Some i → IsRightAt g term u m slot
