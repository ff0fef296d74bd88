use Rattle.std.proofs.Common.{refl, ap, ◌∙◌, arith, length}
use Rattle.sg_undo.specs.Timeline.{Timeline}
use Rattle.sg_changes.specs.declared.step.Step.{Step}
use Rattle.sg_exchanges.proofs.Dropping.{forgetting_first, forgetting_last, forgetting_next, forgotten_all, may_forget}
use Rattle.sg_exchanges.proofs.steps.forget_future.Goals as goal

pub loop-step-init : goal.loop-step-init
loop-step-init c = forgetting_first c.args.terms.now c.args.history.now

pub forget-requires : goal.forget-requires
forget-requires c = may_forget c.args.terms.now c.loop-step.terms c.args.history.now c.loop-step.history c.drop_forth.new.self c.in-Some.step c.loop-step.invariant c.in-Some.ensures.taken c.requires.roots c.requires.once

pub loop-step-preserved-in-Some : goal.loop-step-preserved-in-Some
loop-step-preserved-in-Some c =
    forgetting_next c.args.terms.now c.loop-step.terms c.args.history.now c.loop-step.history c.drop_forth.new.self c.in-Some.step c.loop-step.invariant c.in-Some.ensures.taken c.forget.new.terms c.forget.ensures c.in-Some.ensures.stays

pub loop-step-preserved : goal.loop-step-preserved
loop-step-preserved c =
    forgetting_next c.args.terms.now c.loop-step.terms c.args.history.now c.loop-step.history c.drop_forth.new.self c.in-Some.step c.loop-step.invariant c.in-Some.ensures.taken c.forget.new.terms c.forget.ensures c.in-Some.ensures.stays

pub loop-step-smaller : goal.loop-step-smaller
loop-step-smaller c = (let e = ap length c.in-Some.ensures.taken in omega (arith, e))

pub returns-clause-dropped : goal.returns-clause-dropped
returns-clause-dropped c =
    forgetting_last c.args.terms.now c.loop-step.terms c.args.history.now c.loop-step.history c.loop-step.invariant (c.in_default.ensures.empty.0 refl)

pub returns-clause-history : goal.returns-clause-history
returns-clause-history c =
    c.in_default.ensures.stays
    ∙ ap (λ ss. let r : Timeline Step = record c.loop-step.history { future = ss } in r) c.in_default.ensures.taken
    ∙ forgotten_all c.args.terms.now c.loop-step.terms c.args.history.now c.loop-step.history c.loop-step.invariant (c.in_default.ensures.empty.0 refl)
