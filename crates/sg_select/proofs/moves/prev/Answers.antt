use Rattle.std.proofs.Common.{sym, ◌∙◌, refl, arith}
use Rattle.sg_forest.proofs.Paths.{parent_is_live}
use Rattle.sg_groves.specs.Grove.{nodes, spec_shown}
use Rattle.sg_build.proofs.Told.{the_term}
use Rattle.sg_select.proofs.Leading.{a_lead, held, leads_none, leads_some, no_lead, sub_there}
use Rattle.sg_select.proofs.Neighbours.{prev_is, resting_open}
use Rattle.sg_select.proofs.Around.{reached_from}
use Rattle.sg_select.proofs.Climbing.{KnowsBefore, before_found, before_here, before_up, child_low, walk_first, walk_step, walk_up, walk_last}
use Rattle.sg_select.proofs.moves.prev.Goals as goal

pub loop-above-init : goal.loop-above-init
loop-above-init c = record {
  live = c.requires;
  walks = walk_first c.args.terms.now c.args.n (KnowsBefore (spec_shown c.args.terms.now))
      (λ root t u placed rest. record { way = resting_open (spec_shown c.args.terms.now) t u rest; last = refl });
}

pub last_before-requires-clause-live : goal.last_before-requires-clause-live
last_before-requires-clause-live c = let g = c.args.terms.now in parent_is_live (nodes g) c.facts.ensures.forest.linked c.loop-above.at c.in-Some.above c.in-Some.k c.in-Some.ensures.child

pub last_before-requires-clause-few : goal.last_before-requires-clause-few
last_before-requires-clause-few c = λ x found.
    let low = child_low c.args.terms.now c.facts.ensures c.loop-above.at c.in-Some.above c.in-Some.k c.in-Some.ensures.child x found in omega (arith, low)

pub returns-in-Some-last_before-clause-leads : goal.returns-in-Some-last_before-clause-leads
returns-in-Some-last_before-clause-leads c = λ root t u placed rest.
    let g = c.args.terms.now in
    let x = the_term g c.in-Some.above in
    let k = c.in-Some.k in
    let up = walk_step g c.facts.ensures c.args.n c.loop-above.at c.in-Some.above k (KnowsBefore (spec_shown g)) (parent_is_live (nodes g) c.facts.ensures.forest.linked c.loop-above.at c.in-Some.above c.in-Some.k c.in-Some.ensures.child) c.loop-above.invariant.live c.in-Some.ensures.child c.loop-above.invariant.walks root t u placed in
    let holds = held g c.facts.ensures c.args.n c.requires in
    let lead = leads_some g root c.in-Some-last_before.found _ (c.in-Some-last_before.ensures.leads root t x up.place up.step.placed up.step.holds) in
    a_lead g root c.in-Some-last_before.found _ lead.0
    (prev_is (spec_shown g) t u (the_term g c.args.n) (sub_there g c.facts.ensures root t (the_term g c.args.n) u c.args.n placed holds) rest
    ∙ before_found (spec_shown g) t u k up.place x lead.0 up.step.there lead.1 (up.known rest))
    lead.2

pub returns-then-stands-clause-live : goal.returns-then-stands-clause-live
returns-then-stands-clause-live c = let g = c.args.terms.now in parent_is_live (nodes g) c.facts.ensures.forest.linked c.loop-above.at c.in-Some.above c.in-Some.k c.in-Some.ensures.child

pub returns-then-stands-clause-leads : goal.returns-then-stands-clause-leads
returns-then-stands-clause-leads c = λ root t u placed rest.
    let g = c.args.terms.now in
    let x = the_term g c.in-Some.above in
    let k = c.in-Some.k in
    let up = walk_step g c.facts.ensures c.args.n c.loop-above.at c.in-Some.above k (KnowsBefore (spec_shown g)) (parent_is_live (nodes g) c.facts.ensures.forest.linked c.loop-above.at c.in-Some.above c.in-Some.k c.in-Some.ensures.child) c.loop-above.invariant.live c.in-Some.ensures.child c.loop-above.invariant.walks root t u placed in
    let holds = held g c.facts.ensures c.args.n c.requires in
    let none = leads_none g root _ (c.in_default-last_before.ensures.leads root t x up.place up.step.placed up.step.holds) in
    let way = (reached_from (spec_shown g) t k up.place x up.step.there (up.known rest).way).way in
    a_lead g root c.in-Some.above _ up.place
    (prev_is (spec_shown g) t u (the_term g c.args.n) (sub_there g c.facts.ensures root t (the_term g c.args.n) u c.args.n placed holds) rest
    ∙ before_here (spec_shown g) t u k up.place x up.step.there none (sym (c.stands.ensures root t up.place up.step.placed way) ∙ c.if-stands.true) (up.known rest))
    up.step.placed.way

pub loop-above-preserved : goal.loop-above-preserved
loop-above-preserved c =
    let g = c.args.terms.now in
    let x = the_term g c.in-Some.above in
    let k = c.in-Some.k in
    let live = parent_is_live (nodes g) c.facts.ensures.forest.linked c.loop-above.at c.in-Some.above c.in-Some.k c.in-Some.ensures.child in
    record {
      live = live;
      walks = walk_up g c.facts.ensures c.args.n c.loop-above.at c.in-Some.above k (KnowsBefore (spec_shown g)) (KnowsBefore (spec_shown g)) live c.loop-above.invariant.live c.in-Some.ensures.child
          (λ root t u w s known rest.
          let h = known rest in
          let none = leads_none g root _ (c.in_default-last_before.ensures.leads root t x w s.placed s.holds) in
          let way = (reached_from (spec_shown g) t k w x s.there h.way).way in
          before_up (spec_shown g) t u k w x s.there none (sym (c.stands.ensures root t w s.placed way) ∙ c.if-stands.false) h)
          c.loop-above.invariant.walks;
    }

pub returns-clause-leads : goal.returns-clause-leads
returns-clause-leads c = λ root t u placed rest.
    let g = c.args.terms.now in
    let holds = held g c.facts.ensures c.args.n c.requires in
    no_lead g root _
    (prev_is (spec_shown g) t u (the_term g c.args.n) (sub_there g c.facts.ensures root t (the_term g c.args.n) u c.args.n placed holds) rest
    ∙ ((walk_last g c.facts.ensures c.args.n c.loop-above.at (KnowsBefore (spec_shown g)) (c.parent.ensures.root.0 c.in_default.is) c.loop-above.invariant.walks root t u placed).1 rest).last)
