use Rattle.std.proofs.Common.{◌≡◌, IfOk, sym, subst}
use Rattle.sg_prec.specs.Sources.{spread_from}
use Rattle.sg_grammar.specs.Numbered.{rule_of}
use Rattle.sg_grammar.proofs.numbering.Numbering.rule.Goals as goal

pub returns-in-Step : goal.returns-in-Step
returns-in-Step c =
    subst (λ x. IfOk c.step.result (λ r. r ≡ rule_of c.args.self.now.spec.now (spread_from x))) (sym c.in-Step.is) (c.step.ensures c.in-Step.field-2)
