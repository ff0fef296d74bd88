use Rattle.std.proofs.Common.{◌≡◌, ◌+◌, ◌++◌, ◌∷◌, [], take, arith, sym, ap, ◌∙◌, subst}
use Rattle.std.proofs.lemmas.List.{take_more, take_all}
use Rattle.sg_patterns.specs.Spent.{HaveFailures}
use Rattle.sg_patterns.proofs.Failing.{have-more}
use Rattle.sg_patterns.proofs.failures.failures_of.Goals as goal

pub loop-program-preserved : goal.loop-program-preserved
loop-program-preserved c text =
    let programs = c.args.programs.now in
    let k = c.loop-program.program-index in
    let p = c.program-item.result in
    let more : take (k + 1) programs ≡ take k programs ++ p ∷ [] = take_more programs k p (omega arith) ∙ ap (λ q. take k programs ++ q ∷ []) (sym c.program-item.is) in
    rw (more, c.in_ok-push.ensures.items) (have-more (take k programs) text c.loop-program.all.items p c.in_ok-new.field-0 (c.loop-program.invariant text) (c.in_ok-new.ensures text))

pub returns : goal.returns
returns c text = subst (λ ps. HaveFailures ps text c.loop-program.all.items) (take_all c.loop-program.program-index c.args.programs.now (omega arith)) (c.loop-program.invariant text)
