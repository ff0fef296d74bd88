use Rattle.std.proofs.Common.{List, Bool, ◌++◌, ap, ◌∙◌}
use Rattle.sg_useless.specs.Parts.{Part}
use Rattle.sg_useless.specs.Reach.{flag}
use Rattle.sg_useless.proofs.Whole.{unentered_by}
use Rattle.sg_useless.proofs.finding.add_all_unentered.Goals as goal

pub returns : goal.returns
returns c =
    c.in_ok-add_unentered.ensures
    ∙ ap (λ (l : List Part). c.args.parts.now.items ++ l)
    (unentered_by c.args.spec.now c.deref.result.now c.nonterminals.result (λ n. ap (λ (l : List Bool). flag l n) c.deref.ensures.value ∙ c.in_ok-entered.ensures n) c.nonterminals.ensures.count)
