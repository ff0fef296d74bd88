use Rattle.std.specs.Prelude.{IfOk}
use Rattle.std.proofs.Common.{◌≡◌, [], subst}
use Rattle.sg_states.proofs.Looking.{plain_page}
use Rattle.sg_states.proofs.looks.page_of.Goals as goal

pub returns : goal.returns
returns c = λ t whole. subst (λ z. IfOk c.cells.result (λ p. p ≡ z)) (plain_page c.args.terms.now c.facts.ensures c.args.root t whole []) (c.cells.ensures t whole.holds)
