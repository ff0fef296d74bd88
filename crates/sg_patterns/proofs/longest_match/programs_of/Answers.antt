use Rattle.std.proofs.Common.{◌≡◌, ◌+◌, ◌++◌, ◌∷◌, [], take, arith, sym, ap, ◌∙◌}
use Rattle.std.proofs.lemmas.List.{take_more}
use Rattle.sg_patterns.proofs.Failing.{programs-more}
use Rattle.sg_patterns.proofs.longest_match.programs_of.Goals as goal

pub loop-lexeme-preserved : goal.loop-lexeme-preserved
loop-lexeme-preserved c =
    let all = c.args.all.now in
    let k = c.loop-lexeme.lexeme-index in
    let q = c.lexeme-item.result in
    let more : take (k + 1) all ≡ take k all ++ q ∷ [] = take_more all k q (omega arith) ∙ ap (λ x. take k all ++ x ∷ []) (sym c.lexeme-item.is) in
    rw (more, c.in_ok-push.ensures.items) (programs-more c.loop-lexeme.programs.items (take k all) c.in_ok-ready.field-0 q c.loop-lexeme.invariant c.in_ok-ready.ensures)
