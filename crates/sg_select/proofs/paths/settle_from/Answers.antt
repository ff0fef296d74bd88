use Rattle.std.specs.Prelude.{IfSome}
use Rattle.std.proofs.Common.{subst}
use Rattle.sg_select.specs.Leads.{IsOpenAt}
use Rattle.sg_select.proofs.paths.settle_from.Goals as goal

pub returns-in-Some-clause-settled : goal.returns-in-Some-clause-settled
returns-in-Some-clause-settled c = λ root t u placed reached.
    c.settle_below.ensures.settled root t u placed (subst (λ o. IfSome o (IsOpenAt c.args.terms.now root t)) c.in-Some.is reached)

pub returns-in-None-clause-settled : goal.returns-in-None-clause-settled
returns-in-None-clause-settled c = λ root t u placed reached. c.settle.ensures.settled root t u placed
