use Rattle.std.proofs.Common.{sym, ◌∙◌, subst}
use Rattle.std.specs.List.{find}
use Rattle.sg_groves.specs.Grove.{spec_shown}
use Rattle.sg_build.proofs.Told.{the_term}
use Rattle.sg_select.specs.Around.{after, inside}
use Rattle.sg_select.specs.Leads.{LeadsTo}
use Rattle.sg_select.proofs.Leading.{a_lead, held, leads_none, leads_some, sub_there}
use Rattle.sg_search.specs.Found.{applies_at}
use Rattle.sg_search.proofs.Sought.{find_left, find_right, found_around, placed_live}
use Rattle.sg_search.proofs.next.next_found.Goals as goal

pub found_inside-requires-clause-live : goal.found_inside-requires-clause-live
found_inside-requires-clause-live c = let is = c.requires in placed_live c.args.terms.now c.facts.ensures c.args.root is.0 is.1 c.args.n is.2

pub found_inside-requires-clause-sought : goal.found_inside-requires-clause-sought
found_inside-requires-clause-sought c = (c.args.name.now, c.in_ok-sought.ensures)

pub found_after-requires-clause-live : goal.found_after-requires-clause-live
found_after-requires-clause-live c = let is = c.requires in placed_live c.args.terms.now c.facts.ensures c.args.root is.0 is.1 c.args.n is.2

pub found_after-requires-clause-sought : goal.found_after-requires-clause-sought
found_after-requires-clause-sought c = (c.args.name.now, c.in_ok-sought.ensures)

pub returns-in-Some-clause-leads : goal.returns-in-Some-clause-leads
returns-in-Some-clause-leads c = λ t u placed rest.
    let g = c.args.terms.now in
    let root = c.args.root in
    let x = the_term g c.args.n in
    let holds = held g c.facts.ensures c.args.n (placed_live g c.facts.ensures root t u c.args.n placed) in
    let lead = leads_some g root c.in-Some.found _ (c.in-Some.ensures.leads c.args.name.now root t x u c.in_ok-sought.ensures placed holds) in
    a_lead g root c.in-Some.found _ lead.0
    (found_around g.spec g.view c.args.name.now t x u (sub_there g c.facts.ensures root t x u c.args.n placed holds) rest
    ∙ find_left (applies_at g.spec c.args.name.now t) (inside (spec_shown g) u x) (after (spec_shown g) t u) lead.0 lead.1)
    lead.2

pub returns-clause-leads : goal.returns-clause-leads
returns-clause-leads c = λ t u placed rest.
    let g = c.args.terms.now in
    let root = c.args.root in
    let x = the_term g c.args.n in
    let holds = held g c.facts.ensures c.args.n (placed_live g c.facts.ensures root t u c.args.n placed) in
    let none = leads_none g root _ (c.in-None.ensures.leads c.args.name.now root t x u c.in_ok-sought.ensures placed holds) in
    subst (λ o. LeadsTo g root o c.found_after.result)
    (sym (found_around g.spec g.view c.args.name.now t x u (sub_there g c.facts.ensures root t x u c.args.n placed holds) rest
    ∙ find_right (applies_at g.spec c.args.name.now t) (inside (spec_shown g) u x) (after (spec_shown g) t u) none))
    (c.found_after.ensures.leads c.args.name.now root t u c.in_ok-sought.ensures placed)
