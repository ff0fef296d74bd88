use Rattle.std.proofs.Common.{sym, ◌∙◌, subst}
use Rattle.sg_groves.specs.Grove.{spec_shown}
use Rattle.sg_build.proofs.Told.{the_term}
use Rattle.sg_select.specs.Leads.{LeadsTo}
use Rattle.sg_select.proofs.Leading.{held, no_lead, sub_there}
use Rattle.sg_select.proofs.Siblings.{first_closed, first_is}
use Rattle.sg_select.proofs.moves.first.Goals as goal

pub returns-then-not-is_open-clause-leads : goal.returns-then-not-is_open-clause-leads
returns-then-not-is_open-clause-leads c = λ root t u placed.
    let g = c.args.terms.now in
    no_lead g root _ (first_closed (spec_shown g) t u (sym (c.is_open.ensures root t u placed) ∙ c.if-not-is_open.true))

pub returns-clause-leads : goal.returns-clause-leads
returns-clause-leads c = λ root t u placed.
    let g = c.args.terms.now in
    let x = the_term g c.args.n in
    let holds = held g c.facts.ensures c.args.n c.requires in
    subst (λ o. LeadsTo g root o c.first_inside.result)
    (sym (first_is (spec_shown g) t u x (sub_there g c.facts.ensures root t x u c.args.n placed holds) (sym (c.is_open.ensures root t u placed) ∙ c.if-not-is_open.false)))
    (c.first_inside.ensures.leads root t x u placed holds)
