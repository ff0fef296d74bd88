use Rattle.std.proofs.Common.{◌≡◌, ◌*◌, ◌+◌, take, drop, map, length}
use Rattle.sg_kinds.specs.Values.{depth_of, depths_of, row_of}
use Rattle.sg_pool.specs.Pools.{value_at, interned_all, IsGrown}
use Rattle.sg_pool.specs.PoolView.{AreBelow}
use Rattle.sg_pool.proofs.pool.Pool.+put.Given as goal

abbrev pub decreases-put : goal.decreases-put
decreases-put l = 2 * depth_of l.v.now

abbrev pub decreases-put_all : goal.decreases-put_all
decreases-put_all l = 2 * depths_of (row_of l.values.now) + 1

abbrev pub invariant-put_all-loop-value : goal.invariant-put_all-loop-value
invariant-put_all-loop-value l = record {
  numbers : map (value_at l.self) l.numbers.items ≡ take l.value-index l.values;
  below : AreBelow (length l.self) l.numbers.items;
  pool : interned_all l.self (row_of (drop l.value-index l.values)) ≡ interned_all l.initial.self (row_of l.values);
  grown : IsGrown l.initial.self l.self;
}
