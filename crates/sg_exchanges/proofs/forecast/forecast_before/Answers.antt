use Rattle.std.specs.Prelude.{IfSome}
use Rattle.std.proofs.Common.{subst}
use Rattle.sg_exchanges.specs.Known.{IsKnown}
use Rattle.sg_exchanges.proofs.Telling.{told_first}
use Rattle.sg_exchanges.proofs.forecast.forecast_before.Goals as goal

pub returns : goal.returns
returns c = λ t u whole way.
    let g = c.args.terms.now in
    let known = subst (λ o. IfSome o (IsKnown g c.args.root)) c.in-Some.is c.requires.known in
    told_first g c.facts.ensures c.args.root c.args.at c.in-Some.known t u c.in-Some-parent.above c.in-Some-parent.field-0-1 c.foretell.result known whole way c.in-Some-parent.ensures.child
    (c.foretell.ensures c.args.root)
