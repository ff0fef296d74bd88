-- What is known of the edited term before a change, and what it tells of the term after it.
use Rattle.std.specs.Prelude.{◌≡◌, true, ◌⊎◌, ℕ, [], ◌∷◌, Some}
use Rattle.sg_kinds.specs.Terms.{Term, nodes_of}
use Rattle.sg_kinds.specs.Places.{Place}
use Rattle.sg_kinds.specs.InView.{in_view}
use Rattle.sg_kinds.specs.Specification.{locals_of}
use Rattle.sg_kinds.specs.declared.spec.Spec.{Spec}
use Rattle.sg_forest.specs.declared.node_id.NodeId.{NodeId}
use Rattle.sg_forest.specs.Trees.{Climbs, IsRoot}
use Rattle.sg_groves.specs.Grove.{Grove, nodes, spec_shown}
use Rattle.sg_groves.specs.TermAt.{term_at}
use Rattle.sg_terms.specs.Found.{op_at}
use Rattle.sg_select.specs.RestingPlaces.{is_open, rests}
use Rattle.sg_propagate.specs.Exchanged.{Reaches}
use Rattle.sg_states.specs.Beginnings.{Begins, WillForetell}
use Rattle.sg_states.specs.Paged.{IsWhole}
use Rattle.sg_states.specs.declared.forecast.Before.{Before}
use Rattle.sg_exchanges.specs.declared.forecast.Known.{Known}

-- the selected node rests and begins there, and the term has so many nodes
pub record IsKnown (g : Grove) (root : NodeId) (k : Known) : Type 0 where
  pub term : Term
  pub place : Place
  pub whole : IsWhole g root term
  pub way : Climbs (nodes g) place k.selected root
  pub rests : rests (spec_shown g) term place ≡ true
  pub begins : Begins g.spec g.view term place k.begins
  pub counted : k.count ≡ nodes_of term

-- the node above a place can be reached, and tells where nodes begin once the term changed at that place; the root has
-- none above
abbrev pub WillTell : Spec → ℕ → Term → Place → Before → Type 0
WillTell spec v t [] b = ⊥
WillTell spec v t (k ∷ p) b = (is_open (in_view spec v) t p ≡ true) × WillForetell spec v t p b

-- a node hangs under another, and its operator has no locals
pub record HasAttributesOnly (g : Grove) (n : NodeId) : Type 0 where
  pub hangs : IsRoot (nodes g) n → ⊥
  pub op : ℕ
  pub is : op_at g n ≡ Some op
  pub none : locals_of g.spec.ops op ≡ []

-- a change reaches the node that came, or the one above, which has attributes only
abbrev pub IsNear : Grove → NodeId → NodeId → NodeId → Type 0
IsNear g at above reach = (reach ≡ at) ⊎ ((reach ≡ above) × HasAttributesOnly g above)

-- the tree of a root stands at a place then, and the change reaches a node
pub record ReachesThen (old new : Grove) (d root : NodeId) (t : Term) (u : Place) (reach : NodeId) : Type 0 where
  pub way : Climbs (nodes new) u d root
  pub reaches : Reaches old.spec new root t u (term_at old d) reach
