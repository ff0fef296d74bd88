use Rattle.std.proofs.Common.{◌≡◌, ◌≤◌, ◌+◌, max, drop, map}
use Rattle.sg_kinds.specs.Values.{depths_of, sizes_of, row_of}
use Rattle.sg_pool.specs.Pools.{value_at}
use Rattle.sg_pool.proofs.pool.Pool.measure_over.Given as goal

-- what is left decides
abbrev pub invariant-loop-kid : goal.invariant-loop-kid
invariant-loop-kid l = record {
  size_within : l.size ≤ 65536;
  depth_within : l.depth ≤ 1024;
  depth_positive : 1 ≤ l.depth;
  size : l.size + sizes_of (row_of (map (value_at l.self) (drop l.kid-index l.kids))) ≡ 1 + sizes_of (row_of (map (value_at l.self) l.kids));
  depth : max l.depth (1 + depths_of (row_of (map (value_at l.self) (drop l.kid-index l.kids)))) ≡ 1 + depths_of (row_of (map (value_at l.self) l.kids));
}
