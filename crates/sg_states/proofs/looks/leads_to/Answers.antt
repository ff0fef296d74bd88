use Rattle.sg_select.proofs.Settling.{tested}
use Rattle.sg_states.proofs.Looking.{leads_there, leads_nowhere}
use Rattle.sg_states.proofs.looks.leads_to.Goals as goal

pub returns-in-Some : goal.returns-in-Some
returns-in-Some c = λ t v holds way.
    let e = tested c.in-Some.m c.args.n c.eq.result c.eq.ensures in
    leads_there c.args.terms.now c.facts.ensures c.args.root t c.args.path.now c.in-Some.m c.args.n v c.eq.result c.requires (c.in-Some.ensures.leads t holds) way (e.1, e.0)

pub returns-in-None : goal.returns-in-None
returns-in-None c = λ t v holds way.
    leads_nowhere c.args.terms.now c.facts.ensures c.args.root t c.args.path.now c.args.n v holds (c.in-None.ensures.leads t holds) way
