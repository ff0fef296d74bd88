use Rattle.std.proofs.Common.{◌∷◌, Some, None, sym, ◌∙◌, subst}
use Rattle.sg_groves.specs.Grove.{spec_shown}
use Rattle.sg_build.proofs.Told.{the_term}
use Rattle.sg_select.specs.Kept.{IsKept}
use Rattle.sg_select.proofs.Leading.{held, kid_placed, sub_there}
use Rattle.sg_select.proofs.Settling.{kept_closed, kept_here, kept_none, kept_same, leads_is_none, leads_is_some}
use Rattle.sg_select.proofs.moves.kept_over.Goals as goal

pub returns-then-not-leads_on-clause-kept : goal.returns-then-not-leads_on-clause-kept
returns-then-not-leads_on-clause-kept c = λ root t u w v placed leads known.
    let g = c.args.terms.now in
    let x = the_term g c.args.above in
    let y = the_term g c.args.at in
    let holds = held g c.facts.ensures c.args.above c.requires.above in
    let below = held g c.facts.ensures c.args.at c.requires.at in
    let there = sub_there g c.facts.ensures root t x w c.args.above placed holds in
    let kid = kid_placed g c.facts.ensures root t w c.args.above c.args.at c.args.k placed c.requires.child in
    let kid_is = sub_there g c.facts.ensures root t y (c.args.k ∷ w) c.args.at kid below in
    (None, tt, kept_closed (spec_shown g) t u c.args.k w x y there kid_is v (sym (c.leads_on.ensures x holds) ∙ c.if-not-leads_on.true) known)

pub returns-then-is_some-clause-kept : goal.returns-then-is_some-clause-kept
returns-then-is_some-clause-kept c = λ root t u w v placed leads known.
    let g = c.args.terms.now in
    let x = the_term g c.args.above in
    let y = the_term g c.args.at in
    let holds = held g c.facts.ensures c.args.above c.requires.above in
    let below = held g c.facts.ensures c.args.at c.requires.at in
    let there = sub_there g c.facts.ensures root t x w c.args.above placed holds in
    let kid = kid_placed g c.facts.ensures root t w c.args.above c.args.at c.args.k placed c.requires.child in
    let kid_is = sub_there g c.facts.ensures root t y (c.args.k ∷ w) c.args.at kid below in
    let on = sym (c.leads_on.ensures x holds) ∙ c.if-not-leads_on.false in
    let some = leads_is_some g root v c.args.kept (sym c.is_some.ensures ∙ c.if-is_some.true) leads in
    (v, leads, subst (IsKept (spec_shown g) t u w) (sym some.1) (kept_same (spec_shown g) t u c.args.k w x y there kid_is some.0 on (subst (IsKept (spec_shown g) t u (c.args.k ∷ w)) some.1 known)))

pub returns-then-rests_under-clause-kept : goal.returns-then-rests_under-clause-kept
returns-then-rests_under-clause-kept c = λ root t u w v placed leads known.
    let g = c.args.terms.now in
    let x = the_term g c.args.above in
    let y = the_term g c.args.at in
    let holds = held g c.facts.ensures c.args.above c.requires.above in
    let below = held g c.facts.ensures c.args.at c.requires.at in
    let there = sub_there g c.facts.ensures root t x w c.args.above placed holds in
    let kid = kid_placed g c.facts.ensures root t w c.args.above c.args.at c.args.k placed c.requires.child in
    let kid_is = sub_there g c.facts.ensures root t y (c.args.k ∷ w) c.args.at kid below in
    let on = sym (c.leads_on.ensures x holds) ∙ c.if-not-leads_on.false in
    let none = leads_is_none g root v c.args.kept (sym c.is_some.ensures ∙ c.if-is_some.false) leads in
    let rest = sym (c.rests_under.ensures x y holds below) ∙ c.if-rests_under.true in
    (Some (c.args.k ∷ w), kid.way, kept_here (spec_shown g) t u c.args.k w x y there kid_is on rest (subst (IsKept (spec_shown g) t u (c.args.k ∷ w)) none known))

pub returns-clause-kept : goal.returns-clause-kept
returns-clause-kept c = λ root t u w v placed leads known.
    let g = c.args.terms.now in
    let x = the_term g c.args.above in
    let y = the_term g c.args.at in
    let holds = held g c.facts.ensures c.args.above c.requires.above in
    let below = held g c.facts.ensures c.args.at c.requires.at in
    let there = sub_there g c.facts.ensures root t x w c.args.above placed holds in
    let kid = kid_placed g c.facts.ensures root t w c.args.above c.args.at c.args.k placed c.requires.child in
    let kid_is = sub_there g c.facts.ensures root t y (c.args.k ∷ w) c.args.at kid below in
    let on = sym (c.leads_on.ensures x holds) ∙ c.if-not-leads_on.false in
    let none = leads_is_none g root v c.args.kept (sym c.is_some.ensures ∙ c.if-is_some.false) leads in
    let rest = sym (c.rests_under.ensures x y holds below) ∙ c.if-rests_under.false in
    (None, tt, kept_none (spec_shown g) t u c.args.k w x y there kid_is on rest (subst (IsKept (spec_shown g) t u (c.args.k ∷ w)) none known))
