use Rattle.std.proofs.Common.{◌≡◌, ◌∷◌, sym, ap, ◌∙◌, refl}
use Rattle.sg_forest.proofs.Paths.{parent_is_live}
use Rattle.sg_groves.specs.Grove.{nodes}
use Rattle.sg_build.proofs.Told.{the_term}
use Rattle.sg_select.proofs.Climbing.{walk_first, walk_step}
use Rattle.sg_select.proofs.Leading.{a_lead, no_lead}
use Rattle.sg_edits.specs.Edits.{node_before}
use Rattle.sg_edits.proofs.Listed.{before_later, before_other, before_there, two_is}
use Rattle.sg_edits.proofs.lists.node_before.Goals as goal
use Rattle.sg_edits.proofs.lists.node_before.Goals.{else-k-eq1-via-then-k-eq1+else-is_of_list, else-k-eq1-via-else-k-eq1}

pub returns-then-is_of_list-clause-leads : goal.returns-then-is_of_list-clause-leads
returns-then-is_of_list-clause-leads c = λ root t u placed.
    let g = c.args.terms.now in
    let x = the_term g c.in-Some.above in
    let live = parent_is_live (nodes g) c.facts.ensures.forest.linked c.args.n c.in-Some.above c.in-Some.k c.in-Some.ensures.child in
    let up = walk_step g c.facts.ensures c.args.n c.args.n c.in-Some.above c.in-Some.k (λ root t u w. u ≡ w) live c.requires c.in-Some.ensures.child (walk_first g c.args.n (λ root t u w. u ≡ w) (λ root t u placed. refl)) root t u placed in
    a_lead g root c.in-Some.above (node_before g.spec t u) up.place
    (ap (node_before g.spec t) (up.known ∙ ap (λ k. k ∷ up.place) c.if-k-eq1.true)
    ∙ before_there g.spec t x up.place up.step.there (sym (two_is g.spec x) ∙ sym (c.is_of_list.ensures x up.step.holds) ∙ c.if-is_of_list.true))
    up.step.placed.way

pub returns-else-k-eq1-clause-leads : goal.returns-else-k-eq1-clause-leads
returns-else-k-eq1-clause-leads c = λ root t u placed.
    let g = c.args.terms.now in
    let x = the_term g c.in-Some.above in
    let live = parent_is_live (nodes g) c.facts.ensures.forest.linked c.args.n c.in-Some.above c.in-Some.k c.in-Some.ensures.child in
    let up = walk_step g c.facts.ensures c.args.n c.args.n c.in-Some.above c.in-Some.k (λ root t u w. u ≡ w) live c.requires c.in-Some.ensures.child (walk_first g c.args.n (λ root t u w. u ≡ w) (λ root t u placed. refl)) root t u placed in
    no_lead g root (node_before g.spec t u)
    (ap (node_before g.spec t) up.known ∙ elim c.else-k-eq1.branch [
      | else-k-eq1-via-then-k-eq1+else-is_of_list w ↦ before_other g.spec t x up.place c.in-Some.k up.step.there (sym (two_is g.spec x) ∙ sym (w.is_of_list.ensures x up.step.holds) ∙ w.if-is_of_list.false)
      | else-k-eq1-via-else-k-eq1 w ↦ before_later g.spec t up.place c.in-Some.k w.if-k-eq1.false
    ])
