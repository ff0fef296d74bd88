use Rattle.std.proofs.Common.{◌≡◌, ◌*◌, ◌+◌, take, map}
use Rattle.sg_pool.specs.Pools.{value_at}
use Rattle.sg_pool.proofs.pool.Pool.+value.Given as goal

abbrev pub decreases-value : goal.decreases-value
decreases-value l = 2 * l.id + 1

abbrev pub decreases-values : goal.decreases-values
decreases-values l = 2 * l.below

abbrev pub invariant-values-loop-id : goal.invariant-values-loop-id
invariant-values-loop-id l = l.values.items ≡ map (value_at l.self) (take l.id-index l.ids)
