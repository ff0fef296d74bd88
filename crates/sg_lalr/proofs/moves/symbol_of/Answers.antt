use Rattle.std.proofs.Common.{sym, ◌∙◌}
use Rattle.sg_lalr.proofs.MoveLemmas.{symbol-within, dot-within, if_some}
use Rattle.sg_lalr.proofs.moves.symbol_of.Goals as goal

pub returns-clause-within : goal.returns-clause-within
returns-clause-within c = if_some c.symbol_at.result _ (λ X is. symbol-within c.args.g.now c.sound.ensures c.args.item.production c.args.item.dot X (sym c.symbol_at.ensures ∙ is))

pub returns-clause-short : goal.returns-clause-short
returns-clause-short c = if_some c.symbol_at.result _ (λ X is. dot-within c.args.g.now c.sound.ensures c.args.item.production c.args.item.dot X (sym c.symbol_at.ensures ∙ is))
