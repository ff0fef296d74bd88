-- What a node of a grove is.
use Rattle.std.specs.Prelude.{ℕ, Option, option_and_then}
use Rattle.sg_forest.specs.declared.node_id.NodeId.{NodeId}
use Rattle.sg_groves.specs.Grove.{Grove, nodes}

-- the operator of a node, none of a leaf
abbrev pub op_at : Grove → NodeId → Option ℕ
op_at g n = option_and_then (λ x. x.label.op) (nodes g n)
