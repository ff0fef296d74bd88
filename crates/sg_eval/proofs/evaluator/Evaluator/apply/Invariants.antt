use Rattle.std.proofs.Common.{◌≡◌, map, take, length}
use Rattle.sg_pool.specs.Pools.{value_at}
use Rattle.sg_pool.specs.PoolView.{AreBelow}
use Rattle.sg_kinds.specs.Evaluation.{clipped}
use Rattle.sg_eval.proofs.evaluator.Evaluator.apply.Given as goal

abbrev pub invariant-loop-value : goal.invariant-loop-value
invariant-loop-value l = record {
  values : map (value_at l.pool) l.numbers.items ≡ map clipped (take l.value-index l.bound);
  below : AreBelow (length l.pool) l.numbers.items;
}
