use Rattle.std.proofs.Common.{◌≡◌, ◌+◌, drop, map, sym, ◌∙◌, ap, subst, rules, IsTrue, OnOk, length, ◌≤◌}
use Rattle.sg_kinds.specs.Values.{Tree, row_of, depth_of, depths_of}
use Rattle.sg_kinds.specs.ValueView.{value_of_node}
use Rattle.sg_pool.specs.Pools.{is_kept, value_at, interned_all}
use Rattle.sg_pool.specs.PoolView.{AreBelow}
use Rattle.sg_kinds.proofs.Kids.{take_more, drop_more, depth_item}
use Rattle.sg_pool.proofs.Grown.{kids_kept, interned_tree, grown_twice, numbers_push, below_grown}
use Rattle.sg_pool.proofs.pool.Pool.+put.Goals as goal

pub put-put_all-requires : goal.put-put_all-requires
put-put_all-requires t c =
    let tree : c.args.v.now ≡ Tree c.in-Tree.op (row_of c.deref.result.now) = sym c.v.view_is ∙ ap value_of_node c.in-Tree.is ∙ ap (λ l. Tree c.in-Tree.op (row_of l)) (sym c.deref.ensures.value) in
    (search rules, kids_kept c.in-Tree.op c.deref.result.now (subst (λ v. IsTrue (is_kept v)) tree c.requires))

pub put-returns-in_ok-numbers-in-Tree-clause-pool : goal.put-returns-in_ok-numbers-in-Tree-clause-pool
put-returns-in_ok-numbers-in-Tree-clause-pool t c =
    let tree : c.args.v.now ≡ Tree c.in-Tree.op (row_of c.deref.result.now) = sym c.v.view_is ∙ ap value_of_node c.in-Tree.is ∙ ap (λ l. Tree c.in-Tree.op (row_of l)) (sym c.deref.ensures.value) in
    subst (λ x. OnOk c.enter.result (c.enter.new.self ≡ x))
    (interned_tree _ _ _ _ _ _ tree (ap (map (value_at c.put_all.new.self)) c.new.ensures ∙ c.in_ok-numbers-in-Tree.ensures.numbers) c.in_ok-numbers-in-Tree.ensures.pool) c.enter.ensures.pool

pub put-returns-in_ok-numbers-in-Tree-clause-grown : goal.put-returns-in_ok-numbers-in-Tree-clause-grown
put-returns-in_ok-numbers-in-Tree-clause-grown t c = grown_twice _ _ _ c.in_ok-numbers-in-Tree.ensures.grown c.enter.ensures.grown

pub put_all-put-requires : goal.put_all-put-requires
put_all-put-requires t c =
    let h : depth_of c.value-item.result ≤ depths_of (row_of c.args.values.now) = depth_item c.args.values.now c.loop-value.value-index c.value-item.result c.loop-value-test.true c.value-item.is in
    (search (rules, h), subst (λ v. IsTrue (is_kept v)) (sym c.value-item.is) (c.requires c.loop-value.value-index c.value-item.result c.loop-value-test.true))

pub put_all-loop-value-preserved : goal.put_all-loop-value-preserved
put_all-loop-value-preserved t c = record {
  numbers = ap (map (value_at c.put.new.self)) c.in_ok-push.ensures.items
      ∙ numbers_push c.loop-value.self c.put.new.self c.loop-value.numbers.items c.in_ok-put.field-0 c.value-item.result c.in_ok-put.ensures.grown c.loop-value.invariant.below c.in_ok-put.ensures.stands _ c.loop-value.invariant.numbers
      ∙ sym (take_more c.args.values.now c.loop-value.value-index c.value-item.result c.loop-value-test.true c.value-item.is);
  below = subst (AreBelow (length c.put.new.self)) (sym c.in_ok-push.ensures.items)
      (below_grown c.loop-value.self c.put.new.self c.loop-value.numbers.items c.in_ok-put.field-0 c.value-item.result c.in_ok-put.ensures.grown c.loop-value.invariant.below c.in_ok-put.ensures.stands);
  pool = ap (λ l. interned_all l (row_of (drop (c.loop-value.value-index + 1) c.args.values.now))) c.in_ok-put.ensures.pool
      ∙ ap (λ l. interned_all c.loop-value.self (row_of l)) (sym (drop_more c.args.values.now c.loop-value.value-index c.value-item.result c.loop-value-test.true c.value-item.is))
      ∙ c.loop-value.invariant.pool;
  grown = grown_twice _ _ _ c.loop-value.invariant.grown c.in_ok-put.ensures.grown;
}
