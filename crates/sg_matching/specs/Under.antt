-- The values of the terms that nodes hold.
use Rattle.std.specs.Prelude.{ℕ, List, [], map, drop, option_map, unwrap_or}
use Rattle.sg_kinds.specs.Values.{Value, Values, row_of}
use Rattle.sg_kinds.specs.ValueOf.{value_of}
use Rattle.sg_forest.specs.declared.node_id.NodeId.{NodeId}
use Rattle.sg_groves.specs.Grove.{Grove, nodes}
use Rattle.sg_groves.specs.TermAt.{term_at}

-- the children of a node
abbrev pub kids_at : Grove → NodeId → List NodeId
kids_at g n = unwrap_or (option_map (λ x. x.kids) (nodes g n)) []

-- the value of the term under a node
unfoldable pub value_under : Grove → NodeId → Value
value_under g n = value_of (term_at g n)

-- the values of the terms under a node's children, from one of them on
unfoldable pub values_under : Grove → NodeId → ℕ → Values
values_under g n k = row_of (drop k (map (value_under g) (kids_at g n)))
