use Rattle.std.proofs.Common.{sym, ◌∙◌, subst}
use Rattle.sg_groves.specs.Grove.{spec_shown}
use Rattle.sg_build.proofs.Told.{the_term}
use Rattle.sg_select.specs.Around.{after, inside}
use Rattle.sg_select.specs.Leads.{LeadsTo}
use Rattle.sg_select.proofs.Firsts.{first_left, first_right}
use Rattle.sg_select.proofs.Leading.{a_lead, held, leads_none, leads_some, sub_there}
use Rattle.sg_select.proofs.Neighbours.{next_is}
use Rattle.sg_select.proofs.moves.next.Goals as goal

pub returns-in-Some-clause-leads : goal.returns-in-Some-clause-leads
returns-in-Some-clause-leads c = λ root t u placed rest.
    let g = c.args.terms.now in
    let x = the_term g c.args.n in
    let holds = held g c.facts.ensures c.args.n c.requires in
    let lead = leads_some g root c.in-Some.found _ (c.in-Some.ensures.leads root t x u placed holds) in
    a_lead g root c.in-Some.found _ lead.0
    (next_is (spec_shown g) t u x (sub_there g c.facts.ensures root t x u c.args.n placed holds) rest ∙ first_left (inside (spec_shown g) u x) (after (spec_shown g) t u) lead.0 lead.1)
    lead.2

pub returns-in-None-clause-leads : goal.returns-in-None-clause-leads
returns-in-None-clause-leads c = λ root t u placed rest.
    let g = c.args.terms.now in
    let x = the_term g c.args.n in
    let holds = held g c.facts.ensures c.args.n c.requires in
    let none = leads_none g root _ (c.in-None.ensures.leads root t x u placed holds) in
    subst (λ o. LeadsTo g root o c.first_after.result)
    (sym (next_is (spec_shown g) t u x (sub_there g c.facts.ensures root t x u c.args.n placed holds) rest ∙ first_right (inside (spec_shown g) u x) (after (spec_shown g) t u) none))
    (c.first_after.ensures.leads root t u placed)
