use Rattle.std.proofs.Common.{ap, ◌∙◌}
use Rattle.sg_groves.specs.declared.part.Part.{Part}
use Rattle.sg_terms.proofs.Holding.{elided_told}
use Rattle.sg_terms.proofs.terms.Terms.elided.Goals as goal

pub returns-clause-term : goal.returns-clause-term
returns-clause-term c =
    let live = rw (← c.self.view_is) at c.requires in
    rw (← c.self.view_is) (λ t h. ap (λ (p : Part). p.elided) (c.part.ensures.part live.node live.found) ∙ elided_told _ c.self.invariant.0 c.args.n live.node live.found t h)
