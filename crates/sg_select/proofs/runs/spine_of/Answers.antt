use Rattle.std.proofs.Common.{◌≡◌, ◌∷◌, sym, ap, ◌∙◌, refl}
use Rattle.sg_forest.proofs.Paths.{parent_is_live}
use Rattle.sg_groves.specs.Grove.{nodes}
use Rattle.sg_build.proofs.Told.{the_term}
use Rattle.sg_select.specs.Paths.{spine_from}
use Rattle.sg_select.proofs.Climbing.{walk_first, walk_step}
use Rattle.sg_select.proofs.Elements.{spine_later, spine_other, spine_there}
use Rattle.sg_select.proofs.Leading.{a_lead, no_lead}
use Rattle.sg_select.proofs.runs.spine_of.Goals as goal
use Rattle.sg_select.proofs.runs.spine_of.Goals.{else-k-eq0-via-then-k-eq0+else-is_list_node, else-k-eq0-via-else-k-eq0}

pub returns-then-is_list_node-clause-leads : goal.returns-then-is_list_node-clause-leads
returns-then-is_list_node-clause-leads c = λ root t u placed.
    let g = c.args.terms.now in
    let x = the_term g c.in-Some.above in
    let live = parent_is_live (nodes g) c.facts.ensures.forest.linked c.args.n c.in-Some.above c.in-Some.k c.in-Some.ensures.child in
    let up = walk_step g c.facts.ensures c.args.n c.args.n c.in-Some.above c.in-Some.k (λ root t u w. u ≡ w) live c.requires c.in-Some.ensures.child (walk_first g c.args.n (λ root t u w. u ≡ w) (λ root t u placed. refl)) root t u placed in
    a_lead g root c.in-Some.above (spine_from g.spec t u) up.place
    (ap (spine_from g.spec t) (up.known ∙ ap (λ k. k ∷ up.place) c.if-k-eq0.true)
    ∙ spine_there g.spec t x up.place up.step.there (sym (c.is_list_node.ensures x up.step.holds) ∙ c.if-is_list_node.true))
    up.step.placed.way

pub returns-else-k-eq0-clause-leads : goal.returns-else-k-eq0-clause-leads
returns-else-k-eq0-clause-leads c = λ root t u placed.
    let g = c.args.terms.now in
    let x = the_term g c.in-Some.above in
    let live = parent_is_live (nodes g) c.facts.ensures.forest.linked c.args.n c.in-Some.above c.in-Some.k c.in-Some.ensures.child in
    let up = walk_step g c.facts.ensures c.args.n c.args.n c.in-Some.above c.in-Some.k (λ root t u w. u ≡ w) live c.requires c.in-Some.ensures.child (walk_first g c.args.n (λ root t u w. u ≡ w) (λ root t u placed. refl)) root t u placed in
    no_lead g root (spine_from g.spec t u)
    (ap (spine_from g.spec t) up.known ∙ elim c.else-k-eq0.branch [
      | else-k-eq0-via-then-k-eq0+else-is_list_node w ↦ spine_other g.spec t x up.place c.in-Some.k up.step.there (sym (w.is_list_node.ensures x up.step.holds) ∙ w.if-is_list_node.false)
      | else-k-eq0-via-else-k-eq0 w ↦ spine_later g.spec t up.place c.in-Some.k w.if-k-eq0.false
    ])
