use Rattle.std.proofs.Common.{◌+◌, arith, drop, ap, ◌∙◌, refl}
use Rattle.std.specs.List.{slice_get}
use Rattle.sg_forest.proofs.Paths.{parent_is_live}
use Rattle.sg_groves.specs.Grove.{nodes, spec_shown}
use Rattle.sg_build.proofs.Told.{the_term}
use Rattle.sg_select.specs.Around.{after, kids, parts}
use Rattle.sg_select.proofs.Firsts.{first_left, first_right}
use Rattle.sg_select.proofs.Leading.{a_lead, leads_none, leads_some, no_lead}
use Rattle.sg_select.proofs.Climbing.{IsAfterAlike, child_few, after_step, walk_first, walk_step, walk_up, walk_last}
use Rattle.sg_select.proofs.moves.first_after.Goals as goal

pub loop-above-init : goal.loop-above-init
loop-above-init c = record { live = c.requires; walks = walk_first c.args.terms.now c.args.n (IsAfterAlike (spec_shown c.args.terms.now)) (λ root t u placed. refl) }

pub first_from-requires : goal.first_from-requires
first_from-requires c = let g = c.args.terms.now in parent_is_live (nodes g) c.facts.ensures.forest.linked c.loop-above.at c.in-Some.above c.in-Some.k c.in-Some.ensures.child

pub returns-in-Some-first_from-clause-leads : goal.returns-in-Some-first_from-clause-leads
returns-in-Some-first_from-clause-leads c = λ root t u placed.
    let g = c.args.terms.now in
    let x = the_term g c.in-Some.above in
    let k = c.in-Some.k in
    let up = walk_step g c.facts.ensures c.args.n c.loop-above.at c.in-Some.above k (IsAfterAlike (spec_shown g)) (parent_is_live (nodes g) c.facts.ensures.forest.linked c.loop-above.at c.in-Some.above c.in-Some.k c.in-Some.ensures.child) c.loop-above.invariant.live c.in-Some.ensures.child c.loop-above.invariant.walks root t u placed in
    let lead = leads_some g root c.in-Some-first_from.found _ (c.in-Some-first_from.ensures.leads root t x up.place up.step.placed up.step.holds) in
    a_lead g root c.in-Some-first_from.found _ lead.0
    (up.known ∙ ap (λ l. slice_get l 0) (after_step (spec_shown g) t k up.place x up.step.there)
    ∙ first_left (parts (spec_shown g) up.place x (k + 1) (drop (k + 1) (kids x))) (after (spec_shown g) t up.place) lead.0 lead.1)
    lead.2

pub loop-above-preserved : goal.loop-above-preserved
loop-above-preserved c =
    let g = c.args.terms.now in
    let x = the_term g c.in-Some.above in
    let k = c.in-Some.k in
    let live = parent_is_live (nodes g) c.facts.ensures.forest.linked c.loop-above.at c.in-Some.above c.in-Some.k c.in-Some.ensures.child in
    record {
      live = live;
      walks = walk_up g c.facts.ensures c.args.n c.loop-above.at c.in-Some.above k (IsAfterAlike (spec_shown g)) (IsAfterAlike (spec_shown g)) live c.loop-above.invariant.live c.in-Some.ensures.child
          (λ root t u w s known. known ∙ ap (λ l. slice_get l 0) (after_step (spec_shown g) t k w x s.there)
          ∙ first_right (parts (spec_shown g) w x (k + 1) (drop (k + 1) (kids x))) (after (spec_shown g) t w) (leads_none g root _ (c.in_default-first_from.ensures.leads root t x w s.placed s.holds)))
          c.loop-above.invariant.walks;
    }

pub returns-clause-leads : goal.returns-clause-leads
returns-clause-leads c = λ root t u placed.
    let g = c.args.terms.now in
    no_lead g root _ (walk_last g c.facts.ensures c.args.n c.loop-above.at (IsAfterAlike (spec_shown g)) (c.parent.ensures.root.0 c.in_default.is) c.loop-above.invariant.walks root t u placed).1

pub overflow_add-k : goal.overflow_add-k
overflow_add-k c = let few = child_few c.args.terms.now c.facts.ensures c.loop-above.at c.in-Some.above c.in-Some.k c.in-Some.ensures.child in omega (arith, few)
