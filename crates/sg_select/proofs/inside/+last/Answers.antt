use Rattle.std.proofs.Common.{◌≡◌, ◌+◌, ◌-◌, take, ◌++◌, ◌∷◌, [], None, sym, ap, ◌∙◌, subst, arith, refl}
use Rattle.std.specs.List.{last_or}
use Rattle.std.proofs.lemmas.Option.{same_Some}
use Rattle.sg_kinds.proofs.Elementary.{slice_get-there}
use Rattle.sg_groves.specs.Grove.{spec_shown}
use Rattle.sg_build.proofs.Told.{the_term}
use Rattle.sg_select.specs.Around.{kids, part, parts, inside, when}
use Rattle.sg_select.specs.Leads.{LeadsTo}
use Rattle.sg_select.specs.RestingPlaces.{is_shown, rests_under}
use Rattle.sg_select.proofs.Around.{inside_none, inside_parts}
use Rattle.sg_select.proofs.Firsts.{last_left, last_right, one_less, take_all}
use Rattle.sg_select.proofs.Leading.{child_live, held, kid_placed, kid_there, kids_long, leads_none, leads_some, no_lead, a_lead}
use Rattle.sg_select.proofs.inside.+last.Goals as goal

pub last_at-returns-in-Some-clause-leads : goal.last_at-returns-in-Some-clause-leads
last_at-returns-in-Some-clause-leads t c = λ root whole x y u placed holds at.
    let g = c.args.terms.now in
    let child = c.kid-kid.ensures.child in
    let live = child_live g c.facts.ensures c.kid-kid.result c.args.n c.args.k child in
    let below = held g c.facts.ensures c.kid-kid.result live in
    let kid = the_term g c.kid-kid.result in
    let same = same_Some kid y (sym (kid_there g c.facts.ensures c.args.n c.kid-kid.result c.args.k x kid c.requires.live child holds below) ∙ at) in
    let place = c.child_place-place.ensures x holds in
    let shown = ap is_shown (sym place) ∙ sym c.is_shown.ensures ∙ c.if-not-is_shown.false in
    let own = when (rests_under (spec_shown g) x c.args.k kid) ((c.args.k ∷ u) ∷ []) in
    let lead = leads_some g root c.in-Some.found _ (c.in-Some.ensures.leads root whole kid (c.args.k ∷ u) (kid_placed g c.facts.ensures root whole u c.args.n c.kid-kid.result c.args.k placed child) below) in
    a_lead g root c.in-Some.found _ lead.0
    (ap (λ z. last_or None (part (spec_shown g) u x c.args.k z)) (sym same)
    ∙ ap (λ b. last_or None (when b (own ++ inside (spec_shown g) (c.args.k ∷ u) kid))) shown
    ∙ last_right own (inside (spec_shown g) (c.args.k ∷ u) kid) lead.0 lead.1)
    lead.2

pub last_at-returns-then-rests_at-clause-leads : goal.last_at-returns-then-rests_at-clause-leads
last_at-returns-then-rests_at-clause-leads t c = λ root whole x y u placed holds at.
    let g = c.args.terms.now in
    let child = c.kid-kid.ensures.child in
    let live = child_live g c.facts.ensures c.kid-kid.result c.args.n c.args.k child in
    let below = held g c.facts.ensures c.kid-kid.result live in
    let kid = the_term g c.kid-kid.result in
    let same = same_Some kid y (sym (kid_there g c.facts.ensures c.args.n c.kid-kid.result c.args.k x kid c.requires.live child holds below) ∙ at) in
    let place = c.child_place-place.ensures x holds in
    let shown = ap is_shown (sym place) ∙ sym c.is_shown.ensures ∙ c.if-not-is_shown.false in
    let rest = sym (c.rests_at.ensures x kid holds below place) ∙ c.if-rests_at.true in
    let there = kid_placed g c.facts.ensures root whole u c.args.n c.kid-kid.result c.args.k placed child in
    let none = leads_none g root _ (c.in_default.ensures.leads root whole kid (c.args.k ∷ u) there below) in
    a_lead g root c.kid-kid.result _ (c.args.k ∷ u)
    (ap (λ z. last_or None (part (spec_shown g) u x c.args.k z)) (sym same)
    ∙ ap (λ b. last_or None (when b (when (rests_under (spec_shown g) x c.args.k kid) ((c.args.k ∷ u) ∷ []) ++ inside (spec_shown g) (c.args.k ∷ u) kid))) shown
    ∙ ap (λ b. last_or None (when b ((c.args.k ∷ u) ∷ []) ++ inside (spec_shown g) (c.args.k ∷ u) kid)) rest
    ∙ last_left ((c.args.k ∷ u) ∷ []) (inside (spec_shown g) (c.args.k ∷ u) kid) none)
    there.way

pub last_at-returns-clause-leads : goal.last_at-returns-clause-leads
last_at-returns-clause-leads t c = λ root whole x y u placed holds at.
    let g = c.args.terms.now in
    let child = c.kid-kid.ensures.child in
    let live = child_live g c.facts.ensures c.kid-kid.result c.args.n c.args.k child in
    let below = held g c.facts.ensures c.kid-kid.result live in
    let kid = the_term g c.kid-kid.result in
    let same = same_Some kid y (sym (kid_there g c.facts.ensures c.args.n c.kid-kid.result c.args.k x kid c.requires.live child holds below) ∙ at) in
    let place = c.child_place-place.ensures x holds in
    let shown = ap is_shown (sym place) ∙ sym c.is_shown.ensures ∙ c.if-not-is_shown.false in
    let rest = sym (c.rests_at.ensures x kid holds below place) ∙ c.if-rests_at.false in
    let there = kid_placed g c.facts.ensures root whole u c.args.n c.kid-kid.result c.args.k placed child in
    let none = leads_none g root _ (c.in_default.ensures.leads root whole kid (c.args.k ∷ u) there below) in
    no_lead g root _
    (ap (λ z. last_or None (part (spec_shown g) u x c.args.k z)) (sym same)
    ∙ ap (λ b. last_or None (when b (when (rests_under (spec_shown g) x c.args.k kid) ((c.args.k ∷ u) ∷ []) ++ inside (spec_shown g) (c.args.k ∷ u) kid))) shown
    ∙ ap (λ b. last_or None (when b ((c.args.k ∷ u) ∷ []) ++ inside (spec_shown g) (c.args.k ∷ u) kid)) rest
    ∙ none)

pub last_before-loop-left-init : goal.last_before-loop-left-init
last_before-loop-left-init t c = record { low = omega arith; leads = λ root whole x u placed holds. refl }

pub last_before-returns-in-Some-clause-leads : goal.last_before-returns-in-Some-clause-leads
last_before-returns-in-Some-clause-leads t c = λ root whole x u placed holds.
    let g = c.args.terms.now in
    let k = c.loop-left.left - 1 in
    let some = c.loop-left-test.true in
    let low = c.loop-left.invariant.low in
    let few = kids_long g c.facts.ensures c.args.n c.args.to x c.requires.live c.requires.few holds in
    let kid = slice_get-there (kids x) k (omega (arith, some, low, few)) in
    let up : c.loop-left.left ≡ k + 1 = omega (arith, some) in
    let lead = leads_some g root c.in-Some.found (last_or None (part (spec_shown g) u x k kid.0)) (c.in-Some.ensures.leads root whole x kid.0 u placed holds kid.1) in
    a_lead g root c.in-Some.found _ lead.0
    (c.loop-left.invariant.leads root whole x u placed holds ∙ ap (λ j. last_or None (parts (spec_shown g) u x 0 (take j (kids x)))) up
    ∙ ap (last_or None) (one_less (spec_shown g) u x k (kids x) kid.0 kid.1)
    ∙ last_right (parts (spec_shown g) u x 0 (take k (kids x))) (part (spec_shown g) u x k kid.0) lead.0 lead.1)
    lead.2

pub last_before-loop-left-preserved : goal.last_before-loop-left-preserved
last_before-loop-left-preserved t c =
    let g = c.args.terms.now in
    let k = c.loop-left.left - 1 in
    let some = c.loop-left-test.true in
    let low = c.loop-left.invariant.low in
    record {
      low = omega (arith, some, low);
      leads = λ root whole x u placed holds.
          let few = kids_long g c.facts.ensures c.args.n c.args.to x c.requires.live c.requires.few holds in
          let kid = slice_get-there (kids x) k (omega (arith, some, low, few)) in
          let up : c.loop-left.left ≡ k + 1 = omega (arith, some) in
          let none = leads_none g root (last_or None (part (spec_shown g) u x k kid.0)) (c.in_default.ensures.leads root whole x kid.0 u placed holds kid.1) in
          c.loop-left.invariant.leads root whole x u placed holds ∙ ap (λ j. last_or None (parts (spec_shown g) u x 0 (take j (kids x)))) up
          ∙ ap (last_or None) (one_less (spec_shown g) u x k (kids x) kid.0 kid.1)
          ∙ last_left (parts (spec_shown g) u x 0 (take k (kids x))) (part (spec_shown g) u x k kid.0) none;
    }

pub last_before-returns-clause-leads : goal.last_before-returns-clause-leads
last_before-returns-clause-leads t c = λ root whole x u placed holds.
    let g = c.args.terms.now in
    let none = c.loop-left-test.false in
    let end : c.loop-left.left ≡ 0 = omega (arith, none) in
    no_lead g root _ (c.loop-left.invariant.leads root whole x u placed holds ∙ ap (λ j. last_or None (parts (spec_shown g) u x 0 (take j (kids x)))) end)

pub last_inside-returns-then-elided-clause-leads : goal.last_inside-returns-then-elided-clause-leads
last_inside-returns-then-elided-clause-leads t c = λ root whole x u placed holds.
    no_lead c.args.terms.now root _ (ap (last_or None) (inside_none (spec_shown c.args.terms.now) u x (sym (c.elided.ensures.term x holds) ∙ c.if-elided.true)))

pub last_inside-returns-clause-leads : goal.last_inside-returns-clause-leads
last_inside-returns-clause-leads t c = λ root whole x u placed holds.
    let g = c.args.terms.now in
    let count = c.kid_count.ensures.count x holds in
    subst (λ l. LeadsTo g root (last_or None l) c.last_before.result)
    (ap (parts (spec_shown g) u x 0) (take_all c.kid_count.result (kids x) (omega (arith, count))) ∙ sym (inside_parts (spec_shown g) u x (sym (c.elided.ensures.term x holds) ∙ c.if-elided.false)))
    (c.last_before.ensures.leads root whole x u placed holds)
