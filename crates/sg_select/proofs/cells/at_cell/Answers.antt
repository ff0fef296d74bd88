use Rattle.std.proofs.Common.{sym, ◌∙◌, subst}
use Rattle.std.proofs.lemmas.Option.{same_Some}
use Rattle.sg_groves.specs.Holds.{IsPlaced}
use Rattle.sg_select.proofs.cells.at_cell.Goals as goal

pub returns-in-Some-clause-settled : goal.returns-in-Some-clause-settled
returns-in-Some-clause-settled c = λ n root t u owned placed.
    let same = same_Some n c.in-Some.n (sym owned ∙ sym c.owner.ensures ∙ c.in-Some.is) in
    c.settle.ensures.settled root t u (subst (IsPlaced c.args.terms.now root t u) same placed)
