-- Which node an answer names.
use Rattle.std.specs.Prelude.{◌≡◌, true, Option, Some, None, ⊤}
use Rattle.sg_kinds.specs.Terms.{Term}
use Rattle.sg_kinds.specs.Places.{Place}
use Rattle.sg_forest.specs.declared.node_id.NodeId.{NodeId}
use Rattle.sg_forest.specs.Trees.{Climbs}
use Rattle.sg_groves.specs.Grove.{Grove, nodes, spec_shown}
use Rattle.sg_select.specs.RestingPlaces.{is_open}

-- the node at the place, where there is one, in the tree of a root
abbrev pub LeadsTo : Grove → NodeId → Option Place → Option NodeId → Type 0
LeadsTo g root None None = ⊤
LeadsTo g root (Some v) (Some m) = Climbs (nodes g) v m root
LeadsTo g root v m = ⊥

-- a node can be reached wherever it stands in the tree of a root
abbrev pub IsOpenAt : Grove → NodeId → Term → NodeId → Type 0
IsOpenAt g root t n = (p : Place) → Climbs (nodes g) p n root → is_open (spec_shown g) t p ≡ true
