use Rattle.std.proofs.Common.{ap, ◌∙◌}
use Rattle.sg_groves.specs.declared.kind.Kind.{Kind}
use Rattle.sg_terms.proofs.Holding.{op_told}
use Rattle.sg_terms.proofs.terms.Terms.op.Goals as goal

pub returns-clause-term : goal.returns-clause-term
returns-clause-term c =
    let live = rw (← c.self.view_is) at c.requires in
    rw (← c.self.view_is) (λ t h. ap (λ (l : Kind). l.op) (c.label.ensures.label live.node live.found) ∙ op_told _ c.self.invariant.0 c.args.n live.node live.found t h)
