-- The values that nodes keep.
use Rattle.std.specs.Prelude.{ℕ, List, Option, slice_get, option_map, option_and_then, unwrap_or}
use Rattle.sg_kinds.specs.Values.{Value}
use Rattle.sg_kinds.specs.Evaluation.{untyped}
use Rattle.sg_pool.specs.Pools.{value_at}
use Rattle.sg_forest.specs.declared.node_id.NodeId.{NodeId}
use Rattle.sg_groves.specs.declared.part.Part.{Part}
use Rattle.sg_groves.specs.Grove.{Grove, nodes}

-- the value whose number a part has in a slot; a slot that is not there has no value that an operation takes
abbrev pub kept : List Value → Part → ℕ → Value
kept pool part slot = unwrap_or (option_map (value_at pool) (slice_get part.values slot)) untyped

-- the number that a node has in a slot, and its value
abbrev pub number_at : Grove → NodeId → ℕ → Option ℕ
number_at g n slot = option_and_then (λ x. slice_get x.part.values slot) (nodes g n)

abbrev pub value_there : Grove → NodeId → ℕ → Value
value_there g n slot = unwrap_or (option_map (value_at g.pool) (number_at g n slot)) untyped
