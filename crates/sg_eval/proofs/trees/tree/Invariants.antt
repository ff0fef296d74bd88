use Rattle.std.proofs.Common.{◌≡◌, ◌<◌, List, length, map, take}
use Rattle.std.specs.Prelude.{All}
use Rattle.sg_kinds.specs.Values.{Value}
use Rattle.sg_pool.specs.Pools.{value_at, IsGrown}
use Rattle.sg_eval.specs.Lives.{value_in}
use Rattle.sg_eval.proofs.trees.tree.Given as goal

abbrev pub invariant-loop-kid : goal.invariant-loop-kid
invariant-loop-kid l = record {
  values : (last : List Value) → IsGrown l.pool last → map (value_at last) l.numbers.items ≡ map (value_in last) (take l.kid-index l.kids);
  below : All (λ k. k < length l.pool) l.numbers.items;
  grown : IsGrown l.initial.pool l.pool;
}
