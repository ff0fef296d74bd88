use Rattle.std.proofs.Common.{sym, ◌∙◌, refl}
use Rattle.sg_forest.proofs.Paths.{parent_is_live}
use Rattle.sg_groves.specs.Grove.{nodes, spec_shown}
use Rattle.sg_build.proofs.Told.{the_term}
use Rattle.sg_select.proofs.Climbing.{IsReachedAlike, alike_up, shut_at, walk_first, walk_step, walk_up, walk_last}
use Rattle.sg_select.proofs.moves.is_open.Goals as goal

pub loop-above-init : goal.loop-above-init
loop-above-init c = record { live = c.requires; walks = walk_first c.args.terms.now c.args.n (IsReachedAlike (spec_shown c.args.terms.now)) (λ root t u placed. refl) }

pub leads_on-requires : goal.leads_on-requires
leads_on-requires c = let g = c.args.terms.now in parent_is_live (nodes g) c.facts.ensures.forest.linked c.loop-above.at c.in-Some.above c.in-Some.k c.in-Some.ensures.child

pub returns-then-not-leads_on : goal.returns-then-not-leads_on
returns-then-not-leads_on c = λ root t u placed.
    let g = c.args.terms.now in
    let up = walk_step g c.facts.ensures c.args.n c.loop-above.at c.in-Some.above c.in-Some.k (IsReachedAlike (spec_shown g)) (parent_is_live (nodes g) c.facts.ensures.forest.linked c.loop-above.at c.in-Some.above c.in-Some.k c.in-Some.ensures.child) c.loop-above.invariant.live c.in-Some.ensures.child c.loop-above.invariant.walks root t u placed in
    sym (shut_at (spec_shown g) root t u c.in-Some.k up.place (the_term g c.in-Some.above) up.step.there (sym (c.leads_on.ensures (the_term g c.in-Some.above) up.step.holds) ∙ c.if-not-leads_on.true) up.known)

pub loop-above-preserved : goal.loop-above-preserved
loop-above-preserved c =
    let g = c.args.terms.now in
    let live = parent_is_live (nodes g) c.facts.ensures.forest.linked c.loop-above.at c.in-Some.above c.in-Some.k c.in-Some.ensures.child in
    record {
      live = live;
      walks = walk_up g c.facts.ensures c.args.n c.loop-above.at c.in-Some.above c.in-Some.k (IsReachedAlike (spec_shown g)) (IsReachedAlike (spec_shown g)) live c.loop-above.invariant.live c.in-Some.ensures.child
          (λ root t u w s known. alike_up (spec_shown g) root t u c.in-Some.k w (the_term g c.in-Some.above) s.there (sym (c.leads_on.ensures (the_term g c.in-Some.above) s.holds) ∙ c.if-not-leads_on.false) known)
          c.loop-above.invariant.walks;
    }

pub returns : goal.returns
returns c = λ root t u placed.
    let g = c.args.terms.now in
    sym (walk_last g c.facts.ensures c.args.n c.loop-above.at (IsReachedAlike (spec_shown g)) (c.parent.ensures.root.0 c.in_default.is) c.loop-above.invariant.walks root t u placed).1
