use Rattle.std.proofs.Common.{ap, ◌∙◌}
use Rattle.sg_groves.specs.declared.part.Part.{Part}
use Rattle.sg_terms.proofs.Holding.{scheme_told}
use Rattle.sg_terms.proofs.terms.Terms.scheme.Goals as goal

pub returns-clause-term : goal.returns-clause-term
returns-clause-term c =
    let live = rw (← c.self.view_is) at c.requires in
    rw (← c.self.view_is) (λ t h. ap (λ (p : Part). p.scheme) (c.part.ensures.part live.node live.found) ∙ scheme_told _ c.self.invariant.0 c.args.n live.node live.found t h)
