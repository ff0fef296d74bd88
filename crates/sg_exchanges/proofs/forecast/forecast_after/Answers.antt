use Rattle.std.specs.Prelude.{IfSome}
use Rattle.std.proofs.Common.{refl, subst}
use Rattle.sg_exchanges.specs.Known.{WillTell}
use Rattle.sg_exchanges.proofs.Telling.{told_then}
use Rattle.sg_exchanges.proofs.forecast.forecast_after.Goals as goal

pub returns-then-is_near : goal.returns-then-is_near
returns-then-is_near c = λ t s u whole way reaches tells.
    let g = c.args.terms.now in
    let b = subst (λ o. IfSome o (WillTell g.spec g.view t u)) c.in_ok-before.was tells in
    told_then g c.facts.ensures c.args.root c.args.at c.in_ok-before.before t s u c.in_ok-above.above c.in_ok-above.field-0-1 c.args.reach whole way reaches b c.in_ok-above.ensures.child (c.if-is_near.ensures refl)
