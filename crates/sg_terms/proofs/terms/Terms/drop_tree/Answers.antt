use Rattle.sg_pool.proofs.Grown.{grown_itself}
use Rattle.sg_terms.proofs.Moved.{Holds-stays}
use Rattle.sg_terms.proofs.Steps.{IsGrove-dropped}
use Rattle.sg_terms.proofs.terms.Terms.drop_tree.Goals as goal

pub invariant_of-self : goal.invariant_of-self
invariant_of-self c = (
  IsGrove-dropped c.self.inside.spec c.self.inside.view c.self.inside.trees c.drop_tree.new.self c.self.inside.pool c.self.inside.pool (grown_itself c.self.inside.pool) c.self.invariant.0 c.args.root c.drop_tree.ensures.dropped c.drop_tree.ensures.forest,
  c.self.invariant.1,
)

pub returns-clause-dropped : goal.returns-clause-dropped
returns-clause-dropped c = rw (← c.self.view_is) c.drop_tree.ensures.dropped

pub returns-clause-terms : goal.returns-clause-terms
returns-clause-terms c =
    rw (← c.self.view_is)
    (λ m t not h. Holds-stays c.self.inside.spec c.self.inside.view c.self.inside.trees c.drop_tree.new.self c.self.inside.pool c.self.inside.pool (grown_itself c.self.inside.pool) c.self.invariant.0 m t (λ tree s. c.drop_tree.ensures.trees m tree not s) h)

pub returns-clause-roots : goal.returns-clause-roots
returns-clause-roots c = rw (← c.self.view_is) c.drop_tree.ensures.roots

pub returns-clause-ways : goal.returns-clause-ways
returns-clause-ways c = rw (← c.self.view_is) c.drop_tree.ensures.ways
