use Rattle.std.proofs.Common.{ap, ◌∙◌, ◌∷◌}
use Rattle.sg_undo.specs.Timeline.{Timeline}
use Rattle.sg_changes.specs.declared.step.Step.{Step}
use Rattle.sg_exchanges.proofs.Dropping.{future_once, oldest_root, gone_then}
use Rattle.sg_exchanges.proofs.steps.remember.Goals as goal

pub forget_future-requires-clause-once : goal.forget_future-requires-clause-once
forget_future-requires-clause-once c = future_once (c.args.step ∷ c.args.history.now.past) c.args.history.now.future c.requires.once

pub forget-requires : goal.forget-requires
forget-requires c =
    oldest_root c.args.terms.now c.forget_future.new.terms c.push.new.self.past (c.args.step ∷ c.args.history.now.past) c.args.history.now.future c.in-Some.oldest
    (c.in-Some.ensures.kept ∙ ap (λ (h : Timeline Step). c.args.step ∷ h.past) c.forget_future.ensures.history) c.forget_future.ensures.dropped c.requires.roots c.requires.once

pub returns-in-Some-clause-dropped : goal.returns-in-Some-clause-dropped
returns-in-Some-clause-dropped c =
    gone_then c.args.terms.now c.forget_future.new.terms c.forget.new.terms c.push.new.self.past (c.args.step ∷ c.args.history.now.past) c.args.history.now.future c.in-Some.oldest
    (c.in-Some.ensures.kept ∙ ap (λ (h : Timeline Step). c.args.step ∷ h.past) c.forget_future.ensures.history) c.forget_future.ensures.dropped c.forget.ensures
