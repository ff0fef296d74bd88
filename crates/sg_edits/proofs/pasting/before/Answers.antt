use Rattle.std.proofs.Common.{sym, ap, ◌∙◌, cond}
use Rattle.sg_kinds.specs.declared.spec.Spec.{Spec}
use Rattle.sg_edits.specs.Edits.{joined, paired}
use Rattle.sg_edits.proofs.pasting.before.Goals as goal

pub returns-then-is_run : goal.returns-then-is_run
returns-then-is_run c = λ x h.
    let spec = c.args.terms.now.spec in
    let clip = c.args.clip.now in
    let rest = c.args.rest in
    c.in_ok-joined.ensures ∙ ap (λ (s : Spec). joined s clip.term rest) c.spec.ensures
    ∙ ap (λ b. cond b (joined spec clip.term rest) (paired x clip.term rest)) (sym (sym c.is_run.ensures ∙ c.if-is_run.true))

pub returns : goal.returns
returns c = λ x h.
    let spec = c.args.terms.now.spec in
    let clip = c.args.clip.now in
    let rest = c.args.rest in
    c.in_ok-paired.ensures x h ∙ ap (λ a. paired x a rest) c.in_ok-first.ensures
    ∙ ap (λ b. cond b (joined spec clip.term rest) (paired x clip.term rest)) (sym (sym c.is_run.ensures ∙ c.if-is_run.false))
