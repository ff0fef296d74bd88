use Rattle.std.proofs.Common.{◌≡◌, suc, ◌+◌, ◌++◌, ◌∷◌, [], ◌∙◌, sym, ap, length, arith}
use Rattle.sg_lalr.specs.Items.{item}
use Rattle.sg_lalr.specs.Automaton.{starts_from}
use Rattle.sg_lalr.proofs.PartLemmas.{starts_from-push}
use Rattle.sg_lalr.proofs.states.starts.Goals as goal

pub loop-k-preserved : goal.loop-k-preserved
loop-k-preserved c =
    let p = length c.rules.result.now in
    let next : suc c.loop-k.k ≡ c.loop-k.k + 1 = omega arith in
    c.in_ok-push.ensures.items ∙ ap (λ l. l ++ item (p + c.loop-k.k) 0 ∷ []) c.loop-k.invariant ∙ sym (starts_from-push p c.loop-k.k) ∙ ap (starts_from p) next
