use Rattle.std.proofs.Common.{sym, subst}
use Rattle.sg_kinds.specs.Fits.{Fits}
use Rattle.sg_groves.specs.declared.kind.Kind.{Kind}
use Rattle.sg_groves.proofs.Held.{held_fits}
use Rattle.sg_terms.proofs.terms.Terms.phylum.Goals as goal

pub returns-clause-term : goal.returns-clause-term
returns-clause-term c =
    let live = rw (← c.self.view_is) at c.requires in
    let same = c.label.ensures.label live.node live.found in
    rw (← c.self.view_is) (λ t h. subst (λ (l : Kind). Fits c.self.inside.spec t l.phylum) (sym same) (held_fits _ c.self.invariant.0 c.args.n live.node t live.found h))
