use Rattle.sg_terms.proofs.Holding.{Holds-kid}
use Rattle.sg_terms.proofs.terms.Terms.kid.Goals as goal

pub returns-clause-term : goal.returns-clause-term
returns-clause-term c = rw (← c.self.view_is) (λ t s h at. Holds-kid _ c.self.invariant.0 c.args.n _ c.args.k t s h at c.kid.ensures.child)
