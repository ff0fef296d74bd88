use Rattle.std.proofs.Common.{◌≡◌, ◌+◌, drop, ◌++◌, ◌∷◌, [], sym, ap, ◌∙◌, subst, arith}
use Rattle.std.specs.List.{slice_get}
use Rattle.std.proofs.lemmas.List.{drop_all}
use Rattle.std.proofs.lemmas.Option.{same_Some}
use Rattle.sg_kinds.proofs.Elementary.{slice_get-there}
use Rattle.sg_groves.specs.Grove.{spec_shown}
use Rattle.sg_build.proofs.Told.{the_term}
use Rattle.sg_select.specs.Around.{kids, part, parts, inside, when}
use Rattle.sg_select.specs.Leads.{LeadsTo}
use Rattle.sg_select.specs.RestingPlaces.{is_shown, rests_under}
use Rattle.sg_select.proofs.Around.{inside_none, inside_parts}
use Rattle.sg_select.proofs.Firsts.{first_left, first_right, one_more}
use Rattle.sg_select.proofs.Leading.{child_live, held, kid_placed, kid_there, leads_none, leads_some, no_lead, a_lead}
use Rattle.sg_select.proofs.inside.+first.Goals as goal

pub first_at-returns-clause-leads : goal.first_at-returns-clause-leads
first_at-returns-clause-leads t c = λ root whole x y u placed holds at.
    let g = c.args.terms.now in
    let child = c.kid-kid.ensures.child in
    let live = child_live g c.facts.ensures c.kid-kid.result c.args.n c.args.k child in
    let below = held g c.facts.ensures c.kid-kid.result live in
    let kid = the_term g c.kid-kid.result in
    let same = same_Some kid y (sym (kid_there g c.facts.ensures c.args.n c.kid-kid.result c.args.k x kid c.requires.live child holds below) ∙ at) in
    let place = c.child_place-place.ensures x holds in
    let shown = ap is_shown (sym place) ∙ sym c.is_shown.ensures ∙ c.if-not-is_shown.false in
    let rest = sym (c.rests_at.ensures x kid holds below place) ∙ c.if-rests_at.false in
    let is : part (spec_shown g) u x c.args.k kid ≡ inside (spec_shown g) (c.args.k ∷ u) kid =
    ap (λ b. when b (when (rests_under (spec_shown g) x c.args.k kid) ((c.args.k ∷ u) ∷ []) ++ inside (spec_shown g) (c.args.k ∷ u) kid)) shown
    ∙ ap (λ b. when b ((c.args.k ∷ u) ∷ []) ++ inside (spec_shown g) (c.args.k ∷ u) kid) rest in
    subst (λ z. LeadsTo g root (slice_get (part (spec_shown g) u x c.args.k z) 0) c.first_inside.result) same
    (subst (λ l. LeadsTo g root (slice_get l 0) c.first_inside.result) (sym is)
    (c.first_inside.ensures.leads root whole kid (c.args.k ∷ u) (kid_placed g c.facts.ensures root whole u c.args.n c.kid-kid.result c.args.k placed child) below))

pub first_from-returns-in-Some-clause-leads : goal.first_from-returns-in-Some-clause-leads
first_from-returns-in-Some-clause-leads t c = λ root whole x u placed holds.
    let g = c.args.terms.now in
    let k = c.loop-k.k in
    let count = c.kid_count-k-end.ensures.count x holds in
    let low = c.loop-k-test.true in
    let kid = slice_get-there (kids x) k (omega (arith, count, low)) in
    let lead = leads_some g root c.in-Some.found (slice_get (part (spec_shown g) u x k kid.0) 0) (c.in-Some.ensures.leads root whole x kid.0 u placed holds kid.1) in
    a_lead g root c.in-Some.found _ lead.0
    (c.loop-k.invariant root whole x u placed holds ∙ ap (λ l. slice_get l 0) (one_more (spec_shown g) u x k (kids x) kid.0 kid.1)
    ∙ first_left (part (spec_shown g) u x k kid.0) (parts (spec_shown g) u x (k + 1) (drop (k + 1) (kids x))) lead.0 lead.1)
    lead.2

pub first_from-loop-k-preserved : goal.first_from-loop-k-preserved
first_from-loop-k-preserved t c = λ root whole x u placed holds.
    let g = c.args.terms.now in
    let k = c.loop-k.k in
    let count = c.kid_count-k-end.ensures.count x holds in
    let low = c.loop-k-test.true in
    let kid = slice_get-there (kids x) k (omega (arith, count, low)) in
    let none = leads_none g root (slice_get (part (spec_shown g) u x k kid.0) 0) (c.in_default.ensures.leads root whole x kid.0 u placed holds kid.1) in
    c.loop-k.invariant root whole x u placed holds ∙ ap (λ l. slice_get l 0) (one_more (spec_shown g) u x k (kids x) kid.0 kid.1)
    ∙ first_right (part (spec_shown g) u x k kid.0) (parts (spec_shown g) u x (k + 1) (drop (k + 1) (kids x))) none

pub first_from-returns-clause-leads : goal.first_from-returns-clause-leads
first_from-returns-clause-leads t c = λ root whole x u placed holds.
    let g = c.args.terms.now in
    let k = c.loop-k.k in
    let count = c.kid_count-k-end.ensures.count x holds in
    let high = c.loop-k-test.false in
    no_lead g root _ (c.loop-k.invariant root whole x u placed holds ∙ ap (λ l. slice_get (parts (spec_shown g) u x k l) 0) (drop_all k (kids x) (omega (arith, count, high))))

pub first_inside-returns-then-elided-clause-leads : goal.first_inside-returns-then-elided-clause-leads
first_inside-returns-then-elided-clause-leads t c = λ root whole x u placed holds.
    no_lead c.args.terms.now root _ (ap (λ l. slice_get l 0) (inside_none (spec_shown c.args.terms.now) u x (sym (c.elided.ensures.term x holds) ∙ c.if-elided.true)))

pub first_inside-returns-clause-leads : goal.first_inside-returns-clause-leads
first_inside-returns-clause-leads t c = λ root whole x u placed holds.
    let g = c.args.terms.now in
    subst (λ l. LeadsTo g root (slice_get l 0) c.first_from.result) (sym (inside_parts (spec_shown g) u x (sym (c.elided.ensures.term x holds) ∙ c.if-elided.false)))
    (c.first_from.ensures.leads root whole x u placed holds)
