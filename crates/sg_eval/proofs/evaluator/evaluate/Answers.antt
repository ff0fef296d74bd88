use Rattle.std.specs.Prelude.{◌≡◌, Some, None, slice_get, IfOk, map, length}
use Rattle.std.proofs.Common.{sym, ◌∙◌, ap, subst}
use Rattle.sg_pool.specs.Pools.{value_at, StandsFor}
use Rattle.sg_kinds.specs.Evaluation.{outcome_in, value_within}
use Rattle.sg_pool.proofs.Grown.{grown_itself}
use Rattle.sg_eval.specs.Lives.{AreKnown, bindings, bound_in}
use Rattle.sg_eval.proofs.Bindings.{known_args}
use Rattle.sg_eval.proofs.Settled.{bound_later, outcome_there, outcome_nowhere}
use Rattle.sg_eval.proofs.evaluator.evaluate.Goals as goal

pub returns-in-None-clause-outcome : goal.returns-in-None-clause-outcome
returns-in-None-clause-outcome c =
    let h : slice_get c.args.spec.now.exprs c.args.e ≡ None = ap (slice_get c.args.spec.now.exprs) (sym c.e.view_is) ∙ c.in-None.ensures in
    subst (λ v. IfOk c.put_fault.result (λ id. StandsFor c.put_fault.new.self id v)) (sym (outcome_nowhere c.args.spec.now c.args.e (map (value_at c.args.pool.now) c.args.args.now) h)) c.put_fault.ensures.stands

pub enter-reached-requires-clause-known : goal.enter-reached-requires-clause-known
enter-reached-requires-clause-known c =
    subst (λ l. AreKnown (length c.args.pool.now) (bindings c.args.args.now l)) (sym c.take_row-env.ensures.empty) (known_args (length c.args.pool.now) c.args.args.now c.requires.args)

pub returns-in-Some-clause-outcome : goal.returns-in-Some-clause-outcome
returns-in-Some-clause-outcome c =
    let spec = c.args.spec.now in
    let pool = c.enter-reached.new.pool in
    let args = c.args.args.now in
    let x = c.in-Some.expr.now in
    let h : slice_get spec.exprs c.args.e ≡ Some x = ap (slice_get spec.exprs) (sym c.e.view_is) ∙ c.in-Some.ensures in
    subst (λ v. IfOk c.settled.result (λ id. StandsFor c.settled.new.pool id v))
    (ap (λ y. outcome_in (value_within spec 2048 y (bound_in pool args c.take_row-env.result.items) 100000)) c.expr.view_is
    ∙ ap (λ b. outcome_in (value_within spec 2048 x b 100000)) (ap (bound_in pool args) c.take_row-env.ensures.empty ∙ bound_later c.args.pool.now pool args c.enter-reached.ensures.grown c.requires.args)
    ∙ sym (outcome_there spec c.args.e x (map (value_at c.args.pool.now) args) h))
    (c.settled.ensures.ok _ _ (c.enter-reached.ensures.value pool (grown_itself pool)))
