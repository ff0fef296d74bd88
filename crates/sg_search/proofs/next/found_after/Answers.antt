use Rattle.std.proofs.Common.{◌+◌, arith, drop, ap, ◌∙◌, refl}
use Rattle.std.specs.List.{find}
use Rattle.sg_forest.proofs.Paths.{parent_is_live}
use Rattle.sg_groves.specs.Grove.{nodes, spec_shown}
use Rattle.sg_build.proofs.Told.{the_term}
use Rattle.sg_select.specs.Around.{after, kids, parts}
use Rattle.sg_select.proofs.Leading.{a_lead, leads_none, leads_some, no_lead}
use Rattle.sg_select.proofs.Climbing.{after_step, child_few, walk_first, walk_last, walk_step, walk_up}
use Rattle.sg_search.specs.Found.{applies_at}
use Rattle.sg_search.proofs.Sought.{IsFoundAlike, find_left, find_right}
use Rattle.sg_search.proofs.next.found_after.Goals as goal

pub loop-above-init : goal.loop-above-init
loop-above-init c = record { live = c.requires.live; walks = walk_first c.args.terms.now c.args.n (IsFoundAlike c.args.terms.now c.args.sought.now) (λ root t u placed name named. refl) }

pub found_from-requires-clause-live : goal.found_from-requires-clause-live
found_from-requires-clause-live c = let g = c.args.terms.now in parent_is_live (nodes g) c.facts.ensures.forest.linked c.loop-above.at c.in-Some.above c.in-Some.k c.in-Some.ensures.child

pub returns-in-Some-found_from-clause-leads : goal.returns-in-Some-found_from-clause-leads
returns-in-Some-found_from-clause-leads c = λ name root t u named placed.
    let g = c.args.terms.now in
    let x = the_term g c.in-Some.above in
    let k = c.in-Some.k in
    let live = parent_is_live (nodes g) c.facts.ensures.forest.linked c.loop-above.at c.in-Some.above k c.in-Some.ensures.child in
    let up = walk_step g c.facts.ensures c.args.n c.loop-above.at c.in-Some.above k (IsFoundAlike g c.args.sought.now) live c.loop-above.invariant.live c.in-Some.ensures.child c.loop-above.invariant.walks root t u placed in
    let lead = leads_some g root c.in-Some-found_from.found _ (c.in-Some-found_from.ensures.leads name root t x up.place named up.step.placed up.step.holds) in
    a_lead g root c.in-Some-found_from.found _ lead.0
    (up.known name named ∙ ap (find (applies_at g.spec name t)) (after_step (spec_shown g) t k up.place x up.step.there)
    ∙ find_left (applies_at g.spec name t) (parts (spec_shown g) up.place x (k + 1) (drop (k + 1) (kids x))) (after (spec_shown g) t up.place) lead.0 lead.1)
    lead.2

pub loop-above-preserved : goal.loop-above-preserved
loop-above-preserved c =
    let g = c.args.terms.now in
    let x = the_term g c.in-Some.above in
    let k = c.in-Some.k in
    let live = parent_is_live (nodes g) c.facts.ensures.forest.linked c.loop-above.at c.in-Some.above k c.in-Some.ensures.child in
    record {
      live = live;
      walks = walk_up g c.facts.ensures c.args.n c.loop-above.at c.in-Some.above k (IsFoundAlike g c.args.sought.now) (IsFoundAlike g c.args.sought.now) live c.loop-above.invariant.live c.in-Some.ensures.child
          (λ root t u w s known name named. known name named ∙ ap (find (applies_at g.spec name t)) (after_step (spec_shown g) t k w x s.there)
          ∙ find_right (applies_at g.spec name t) (parts (spec_shown g) w x (k + 1) (drop (k + 1) (kids x))) (after (spec_shown g) t w) (leads_none g root _ (c.in_default-found_from.ensures.leads name root t x w named s.placed s.holds)))
          c.loop-above.invariant.walks;
    }

pub returns-clause-leads : goal.returns-clause-leads
returns-clause-leads c = λ name root t u named placed.
    let g = c.args.terms.now in
    no_lead g root _ ((walk_last g c.facts.ensures c.args.n c.loop-above.at (IsFoundAlike g c.args.sought.now) (c.parent.ensures.root.0 c.in_default.is) c.loop-above.invariant.walks root t u placed).1 name named)

pub overflow_add-k : goal.overflow_add-k
overflow_add-k c = let few = child_few c.args.terms.now c.facts.ensures c.loop-above.at c.in-Some.above c.in-Some.k c.in-Some.ensures.child in omega (arith, few)
