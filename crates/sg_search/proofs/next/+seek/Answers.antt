use Rattle.std.proofs.Common.{◌+◌, drop, ◌++◌, ◌∷◌, [], cond, Some, sym, ap, ◌∙◌, subst, arith}
use Rattle.std.specs.List.{find}
use Rattle.std.proofs.lemmas.List.{drop_all}
use Rattle.std.proofs.lemmas.Option.{same_Some}
use Rattle.sg_kinds.proofs.Elementary.{slice_get-there}
use Rattle.sg_groves.specs.Grove.{spec_shown}
use Rattle.sg_build.proofs.Told.{the_term}
use Rattle.sg_select.specs.Around.{inside, kids, part, parts, when}
use Rattle.sg_select.specs.Leads.{LeadsTo}
use Rattle.sg_select.specs.RestingPlaces.{is_shown, rests_under}
use Rattle.sg_select.proofs.Around.{inside_none, inside_parts}
use Rattle.sg_select.proofs.Firsts.{one_more}
use Rattle.sg_select.proofs.Leading.{a_lead, child_live, held, kid_placed, kid_there, leads_none, leads_some, no_lead, sub_there}
use Rattle.sg_search.specs.Found.{applies_at}
use Rattle.sg_search.proofs.Sought.{find_left, find_right, found_part}
use Rattle.sg_search.proofs.next.+seek.Goals as goal

pub found_at-returns-then-not-is_shown-clause-leads : goal.found_at-returns-then-not-is_shown-clause-leads
found_at-returns-then-not-is_shown-clause-leads t c = λ name root whole x y u named placed holds at place.
    let g = c.args.terms.now in
    no_lead g root _ (ap (λ b. find (applies_at g.spec name whole) (when b (when (rests_under (spec_shown g) x c.args.k y) ((c.args.k ∷ u) ∷ []) ++ inside (spec_shown g) (c.args.k ∷ u) y))) (ap is_shown (sym place) ∙ sym c.is_shown.ensures ∙ c.if-not-is_shown.true))

pub found_at-returns-then-is_found-clause-leads : goal.found_at-returns-then-is_found-clause-leads
found_at-returns-then-is_found-clause-leads t c = λ name root whole x y u named placed holds at place.
    let g = c.args.terms.now in
    let child = c.kid-kid.ensures.child in
    let live = child_live g c.facts.ensures c.kid-kid.result c.args.n c.args.k child in
    let below = held g c.facts.ensures c.kid-kid.result live in
    let kid = the_term g c.kid-kid.result in
    let same = same_Some kid y (sym (kid_there g c.facts.ensures c.args.n c.kid-kid.result c.args.k x kid c.requires.live child holds below) ∙ at) in
    let there = kid_placed g c.facts.ensures root whole u c.args.n c.kid-kid.result c.args.k placed child in
    let shown = ap is_shown (sym place) ∙ sym c.is_shown.ensures ∙ c.if-not-is_shown.false in
    a_lead g root c.kid-kid.result _ (c.args.k ∷ u)
    (ap (λ z. find (applies_at g.spec name whole) (part (spec_shown g) u x c.args.k z)) (sym same)
    ∙ found_part g.spec (spec_shown g) name whole x kid u c.args.k (sub_there g c.facts.ensures root whole kid (c.args.k ∷ u) c.kid-kid.result there below) shown
    ∙ ap (λ b. cond b (Some (c.args.k ∷ u)) (find (applies_at g.spec name whole) (inside (spec_shown g) (c.args.k ∷ u) kid))) (sym (c.is_found.ensures name x kid named holds below place) ∙ c.if-is_found.true))
    there.way

pub found_at-returns-clause-leads : goal.found_at-returns-clause-leads
found_at-returns-clause-leads t c = λ name root whole x y u named placed holds at place.
    let g = c.args.terms.now in
    let child = c.kid-kid.ensures.child in
    let live = child_live g c.facts.ensures c.kid-kid.result c.args.n c.args.k child in
    let below = held g c.facts.ensures c.kid-kid.result live in
    let kid = the_term g c.kid-kid.result in
    let same = same_Some kid y (sym (kid_there g c.facts.ensures c.args.n c.kid-kid.result c.args.k x kid c.requires.live child holds below) ∙ at) in
    let there = kid_placed g c.facts.ensures root whole u c.args.n c.kid-kid.result c.args.k placed child in
    let shown = ap is_shown (sym place) ∙ sym c.is_shown.ensures ∙ c.if-not-is_shown.false in
    subst (λ o. LeadsTo g root o c.found_inside.result)
    (sym (ap (λ z. find (applies_at g.spec name whole) (part (spec_shown g) u x c.args.k z)) (sym same)
    ∙ found_part g.spec (spec_shown g) name whole x kid u c.args.k (sub_there g c.facts.ensures root whole kid (c.args.k ∷ u) c.kid-kid.result there below) shown
    ∙ ap (λ b. cond b (Some (c.args.k ∷ u)) (find (applies_at g.spec name whole) (inside (spec_shown g) (c.args.k ∷ u) kid))) (sym (c.is_found.ensures name x kid named holds below place) ∙ c.if-is_found.false)))
    (c.found_inside.ensures.leads name root whole kid (c.args.k ∷ u) named there below)

pub found_from-returns-then-from-count-clause-leads : goal.found_from-returns-then-from-count-clause-leads
found_from-returns-then-from-count-clause-leads t c = λ name root whole x u named placed holds.
    let g = c.args.terms.now in
    let count = c.kid_count-count.ensures.count x holds in
    let high = c.if-from-count.true in
    no_lead g root _ (ap (λ l. find (applies_at g.spec name whole) (parts (spec_shown g) u x c.args.from l)) (drop_all c.args.from (kids x) (omega (arith, count, high))))

pub found_from-returns-in-Some-clause-leads : goal.found_from-returns-in-Some-clause-leads
found_from-returns-in-Some-clause-leads t c = λ name root whole x u named placed holds.
    let g = c.args.terms.now in
    let k = c.loop-k.k in
    let count = c.kid_count-count.ensures.count x holds in
    let low = c.loop-k-test.true in
    let kid = slice_get-there (kids x) k (omega (arith, count, low)) in
    let place = c.place_in.ensures ∙ c.items_of-items.ensures x holds k in
    let lead = leads_some g root c.in-Some.found _ (c.in-Some.ensures.leads name root whole x kid.0 u named placed holds kid.1 place) in
    a_lead g root c.in-Some.found _ lead.0
    (c.loop-k.invariant name root whole x u named placed holds ∙ ap (find (applies_at g.spec name whole)) (one_more (spec_shown g) u x k (kids x) kid.0 kid.1)
    ∙ find_left (applies_at g.spec name whole) (part (spec_shown g) u x k kid.0) (parts (spec_shown g) u x (k + 1) (drop (k + 1) (kids x))) lead.0 lead.1)
    lead.2

pub found_from-loop-k-preserved : goal.found_from-loop-k-preserved
found_from-loop-k-preserved t c = λ name root whole x u named placed holds.
    let g = c.args.terms.now in
    let k = c.loop-k.k in
    let count = c.kid_count-count.ensures.count x holds in
    let low = c.loop-k-test.true in
    let kid = slice_get-there (kids x) k (omega (arith, count, low)) in
    let place = c.place_in.ensures ∙ c.items_of-items.ensures x holds k in
    let none = leads_none g root _ (c.in_default.ensures.leads name root whole x kid.0 u named placed holds kid.1 place) in
    c.loop-k.invariant name root whole x u named placed holds ∙ ap (find (applies_at g.spec name whole)) (one_more (spec_shown g) u x k (kids x) kid.0 kid.1)
    ∙ find_right (applies_at g.spec name whole) (part (spec_shown g) u x k kid.0) (parts (spec_shown g) u x (k + 1) (drop (k + 1) (kids x))) none

pub found_from-returns-clause-leads : goal.found_from-returns-clause-leads
found_from-returns-clause-leads t c = λ name root whole x u named placed holds.
    let g = c.args.terms.now in
    let k = c.loop-k.k in
    let count = c.kid_count-count.ensures.count x holds in
    let high = c.loop-k-test.false in
    no_lead g root _ (c.loop-k.invariant name root whole x u named placed holds ∙ ap (λ l. find (applies_at g.spec name whole) (parts (spec_shown g) u x k l)) (drop_all k (kids x) (omega (arith, count, high))))

pub found_inside-returns-then-elided-clause-leads : goal.found_inside-returns-then-elided-clause-leads
found_inside-returns-then-elided-clause-leads t c = λ name root whole x u named placed holds.
    let g = c.args.terms.now in
    no_lead g root _ (ap (find (applies_at g.spec name whole)) (inside_none (spec_shown g) u x (sym (c.elided.ensures.term x holds) ∙ c.if-elided.true)))

pub found_inside-returns-clause-leads : goal.found_inside-returns-clause-leads
found_inside-returns-clause-leads t c = λ name root whole x u named placed holds.
    let g = c.args.terms.now in
    subst (λ l. LeadsTo g root (find (applies_at g.spec name whole) l) c.found_from.result) (sym (inside_parts (spec_shown g) u x (sym (c.elided.ensures.term x holds) ∙ c.if-elided.false)))
    (c.found_from.ensures.leads name root whole x u named placed holds)
