use Rattle.std.specs.Prelude.{IfOk}
use Rattle.std.proofs.Common.{◌≡◌, subst}
use Rattle.sg_states.proofs.Looking.{typed_page}
use Rattle.sg_states.proofs.looks.page_with.Goals as goal

pub returns : goal.returns
returns c = λ t u whole way. subst (λ z. IfOk c.cells.result (λ p. p ≡ z)) (typed_page c.args.terms.now c.facts.ensures c.args.root t whole u c.args.at c.args.text.now way) (c.cells.ensures t whole.holds)
