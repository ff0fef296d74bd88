use Rattle.std.proofs.Common.{sym, subst}
use Rattle.sg_groves.specs.Grove.{spec_shown}
use Rattle.sg_select.specs.Leads.{LeadsTo}
use Rattle.sg_states.specs.States.{target}
use Rattle.sg_states.proofs.looks.target.Goals as goal

pub returns-in-Next-clause-leads : goal.returns-in-Next-clause-leads
returns-in-Next-clause-leads c = λ root t u placed rest. subst (λ m. LeadsTo c.args.terms.now root (target m (spec_shown c.args.terms.now) t u) c.next.result) (sym c.in-Next.is) (c.next.ensures.leads root t u placed rest)

pub returns-in-Prev-clause-leads : goal.returns-in-Prev-clause-leads
returns-in-Prev-clause-leads c = λ root t u placed rest. subst (λ m. LeadsTo c.args.terms.now root (target m (spec_shown c.args.terms.now) t u) c.prev.result) (sym c.in-Prev.is) (c.prev.ensures.leads root t u placed rest)

pub returns-in-Up-clause-leads : goal.returns-in-Up-clause-leads
returns-in-Up-clause-leads c = λ root t u placed rest. subst (λ m. LeadsTo c.args.terms.now root (target m (spec_shown c.args.terms.now) t u) c.up.result) (sym c.in-Up.is) (c.up.ensures.leads root t u placed)

pub returns-in-First-clause-leads : goal.returns-in-First-clause-leads
returns-in-First-clause-leads c = λ root t u placed rest. subst (λ m. LeadsTo c.args.terms.now root (target m (spec_shown c.args.terms.now) t u) c.first.result) (sym c.in-First.is) (c.first.ensures.leads root t u placed)

pub returns-in-Sibling-clause-leads : goal.returns-in-Sibling-clause-leads
returns-in-Sibling-clause-leads c = λ root t u placed rest. subst (λ m. LeadsTo c.args.terms.now root (target m (spec_shown c.args.terms.now) t u) c.sibling.result) (sym c.in-Sibling.is) (c.sibling.ensures.leads root t u placed rest)
