use Rattle.std.proofs.Common.{◌≡◌, refl, ap, ◌∙◌, subst}
use Rattle.std.specs.Prelude.{◌*◌, IfSome}
use Rattle.sg_groves.specs.Grove.{spec_shown}
use Rattle.sg_groves.proofs.Held.{part_held}
use Rattle.sg_unparse.specs.Margins.{ons_of}
use Rattle.sg_states.specs.Beginnings.{BeginsAlone}
use Rattle.sg_states.proofs.Foretold.{will_foretell}
use Rattle.sg_states.proofs.forecast.foretell.Goals as goal

pub returns : goal.returns
returns c = λ root t p v whole way to begins counted.
    let g = c.args.terms.now in
    let x = part_held g c.facts.ensures p c.args.above root t way whole.holds in
    let alone = subst (λ o. IfSome o (BeginsAlone g.spec g.view t p x.0 v)) c.in-Some.is (c.in_ok-from.ensures root t x.0 p v whole way to x.2) in
    let wide = subst (λ o. IfSome o (λ m. m ≡ 2 * ons_of (spec_shown g) * c.args.count)) c.in-Some-margin.is c.margin.ensures in
    (refl, alone.below, will_foretell g.spec g.view t x.0 p v c.args.above c.args.begins c.in-Some.from c.in-Some-margin.margin x.2 begins alone (wide ∙ ap (λ n. 2 * ons_of (spec_shown g) * n) counted))
