use Rattle.sg_groves.proofs.Viewed.{IsGrove-view}
use Rattle.sg_terms.proofs.Steps.{grove}
use Rattle.sg_terms.proofs.terms.Terms.set_view.Goals as goal

pub invariant_of-self : goal.invariant_of-self
invariant_of-self c = (
  IsGrove-view (grove c.self.inside.spec c.self.inside.view c.self.inside.trees c.self.inside.pool) c.args.v c.self.invariant.0,
  c.self.invariant.1,
)
