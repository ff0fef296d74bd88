use Rattle.std.proofs.Common.{◌≡◌, ap, ◌∙◌, refl}
use Rattle.sg_forest.proofs.Paths.{parent_is_live}
use Rattle.sg_groves.specs.Grove.{nodes, spec_shown}
use Rattle.sg_select.specs.RestingPlaces.{settled, up_from}
use Rattle.sg_select.proofs.Climbing.{walk_first, walk_step}
use Rattle.sg_select.proofs.Leading.{a_lead, no_lead, top_placed}
use Rattle.sg_select.proofs.Settling.{nearest_settled}
use Rattle.sg_select.proofs.moves.up.Goals as goal

pub settle-requires : goal.settle-requires
settle-requires c = parent_is_live (nodes c.args.terms.now) c.facts.ensures.forest.linked c.args.n c.in-Some.above c.in-Some.field-0-1 c.in-Some.ensures.child

pub returns-in-Some-clause-leads : goal.returns-in-Some-clause-leads
returns-in-Some-clause-leads c = λ root t u placed.
    let g = c.args.terms.now in
    let k = c.in-Some.field-0-1 in
    let live = parent_is_live (nodes g) c.facts.ensures.forest.linked c.args.n c.in-Some.above k c.in-Some.ensures.child in
    let up = walk_step g c.facts.ensures c.args.n c.args.n c.in-Some.above k (λ root t u w. u ≡ w) live c.requires c.in-Some.ensures.child (walk_first g c.args.n (λ root t u w. u ≡ w) (λ root t u placed. refl)) root t u placed in
    a_lead g root c.settle.result (up_from (spec_shown g) t u) (settled (spec_shown g) t up.place) (ap (up_from (spec_shown g) t) up.known ∙ nearest_settled (spec_shown g) t up.place) (c.settle.ensures.settled root t up.place up.step.placed)

pub returns-in-None-clause-leads : goal.returns-in-None-clause-leads
returns-in-None-clause-leads c = λ root t u placed.
    let g = c.args.terms.now in
    no_lead g root (up_from (spec_shown g) t u) (ap (up_from (spec_shown g) t) (top_placed g c.facts.ensures root t u c.args.n placed (c.parent.ensures.root.0 c.in-None.is)))
