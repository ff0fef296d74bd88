use Rattle.std.proofs.Common.{sym, ◌∙◌, ap, subst, map, length}
use Rattle.std.proofs.lemmas.List.{take_all}
use Rattle.std.proofs.lemmas.Option.{slice_get_within}
use Rattle.std.specs.Prelude.{All, ◌<◌}
use Rattle.sg_pool.specs.Pools.{value_at, StandsFor}
use Rattle.sg_pool.specs.PoolView.{AreBelow}
use Rattle.sg_kinds.specs.Outcome.{outcome_of}
use Rattle.sg_pool.proofs.Grown.{numbers_push, below_grown}
use Rattle.sg_kinds.specs.Evaluation.{clipped}
use Rattle.sg_eval.proofs.Settled.{all_below, clipped_more, same_there}
use Rattle.sg_eval.proofs.Clipped.{outcome_clipped}
use Rattle.sg_eval.proofs.evaluator.Evaluator.apply.Goals as goal

pub loop-value-preserved : goal.loop-value-preserved
loop-value-preserved c = record {
  values = ap (map (value_at c.clip.new.pool)) c.in_ok-push.ensures.items
      ∙ numbers_push c.loop-value.pool c.clip.new.pool c.loop-value.numbers.items c.in_ok-clip.field-0 (clipped c.value-item.result) c.in_ok-clip.ensures.grown c.loop-value.invariant.below c.in_ok-clip.ensures.stands _ c.loop-value.invariant.values
      ∙ clipped_more c.args.bound.now c.loop-value.value-index c.value-item.result c.loop-value-test.true c.value-item.is;
  below = subst (AreBelow (length c.clip.new.pool)) (sym c.in_ok-push.ensures.items)
      (below_grown c.loop-value.pool c.clip.new.pool c.loop-value.numbers.items c.in_ok-clip.field-0 (clipped c.value-item.result) c.in_ok-clip.ensures.grown c.loop-value.invariant.below c.in_ok-clip.ensures.stands);
}

pub apply_in-requires-clause-bound : goal.apply_in-requires-clause-bound
apply_in-requires-clause-bound c = subst (All (λ k. k < length c.loop-value.pool)) (sym c.deref.ensures.value) (all_below (length c.loop-value.pool) c.loop-value.numbers.items c.loop-value.invariant.below)

pub value-requires : goal.value-requires
value-requires c = slice_get_within c.apply_in.new.pool c.in_ok-id.id _ c.in_ok-id.ensures.outcome

pub returns : goal.returns
returns c =
    let spec = c.args.self.now in
    let bound = map (value_at c.loop-value.pool) c.deref.result.now in
    let found : StandsFor c.apply_in.new.pool c.in_ok-id.id c.in_ok-value.field-0 = c.in_ok-value.ensures in
    let wanted : StandsFor c.apply_in.new.pool c.in_ok-id.id (outcome_of spec c.args.e bound) = c.in_ok-id.ensures.outcome in
    same_there c.apply_in.new.pool c.in_ok-id.id c.in_ok-value.field-0 (outcome_of spec c.args.e bound) found wanted
    ∙ ap (outcome_of spec c.args.e) (ap (map (value_at c.loop-value.pool)) c.deref.ensures.value ∙ c.loop-value.invariant.values ∙ ap (map clipped) (take_all c.loop-value.value-index c.args.bound.now c.loop-value-test.false))
    ∙ outcome_clipped spec c.args.e c.args.bound.now
