-- Where a node hangs, as it is kept.
use Rattle.std.specs.Prelude.{ℕ, ◌==◌, if◌then◌else◌, Option, Some, None}
use Rattle.sg_forest.specs.declared.node_id.NodeId.{NodeId}

-- the place that no child has
abbrev pub no_place : ℕ
no_place = 18446744073709551615

-- the parent and the place among its children, if it is one
abbrev pub up_of : NodeId → ℕ → Option (NodeId × ℕ)
up_of parent place = if place == no_place then None else Some (parent, place)
