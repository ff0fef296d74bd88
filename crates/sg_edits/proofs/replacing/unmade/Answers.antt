use Rattle.std.proofs.Common.{sym, ap, ◌∙◌, subst}
use Rattle.sg_search.specs.Why.{IsWhy}
use Rattle.sg_edits.specs.Choice.{limited, one}
use Rattle.sg_edits.specs.Edits.{by_replaced}
use Rattle.sg_edits.proofs.Large.{limited_large}
use Rattle.sg_edits.proofs.replacing.unmade.Goals as goal

pub returns-in-Unknown-clause-choice : goal.returns-in-Unknown-clause-choice
returns-in-Unknown-clause-choice c = λ spec name t x u at why. ap (λ r. limited t (by_replaced u r)) (sym (subst (IsWhy spec name x) c.in-Unknown.is why))

pub returns-in-NoMatch-clause-choice : goal.returns-in-NoMatch-clause-choice
returns-in-NoMatch-clause-choice c = λ spec name t x u at why. ap (λ r. limited t (by_replaced u r)) (sym (subst (IsWhy spec name x) c.in-NoMatch.is why))

pub returns-in-Outcome-clause-choice : goal.returns-in-Outcome-clause-choice
returns-in-Outcome-clause-choice c = λ spec name t x u at why. ap (λ r. limited t (by_replaced u r)) (sym (subst (IsWhy spec name x) c.in-Outcome.is why))

pub returns-in-Size-clause-choice : goal.returns-in-Size-clause-choice
returns-in-Size-clause-choice c = λ spec name t x u at why.
    let large = subst (IsWhy spec name x) c.in-Size.is why in
    sym (ap (λ r. limited t (by_replaced u r)) large.made ∙ limited_large t u x large.term (one u) at large.large)
