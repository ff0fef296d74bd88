use Rattle.std.proofs.Common.{subst}
use Rattle.sg_forest.specs.Trees.{node_at}
use Rattle.sg_forest.specs.Tree.{MovesWays}
use Rattle.sg_groves.specs.Grove.{Grove, nodes}
use Rattle.sg_terms.specs.Kept.{ReplacesTerms}
use Rattle.sg_terms.proofs.Steps.{grove}
use Rattle.sg_pool.proofs.Grown.{grown_itself}
use Rattle.sg_terms.proofs.Moved.{Holds-stays, Holds-replaced, numbers_swapped, IsGrove-exchanged}
use Rattle.sg_terms.proofs.terms.Terms.swap.Goals as goal

pub swap-requires-clause-apart : goal.swap-requires-clause-apart
swap-requires-clause-apart c = rw (← c.self.view_is) at c.requires.apart

pub invariant_of-self : goal.invariant_of-self
invariant_of-self c =
    let live = rw (← c.self.view_is) at c.requires.live in
    let root = rw (← c.self.view_is) at c.requires.root in
    let phyla = rw (← c.self.view_is) at c.requires.phyla in (
      IsGrove-exchanged c.self.inside.spec c.self.inside.view c.self.inside.trees c.swap.new.self c.self.inside.pool c.self.invariant.0 c.args.at c.args.detached live root c.swap.ensures.swapped c.swap.ensures.unchanged c.swap.ensures.parts phyla c.swap.ensures.forest,
      c.self.invariant.1,
    )

pub returns-clause-swapped : goal.returns-clause-swapped
returns-clause-swapped c = rw (← c.self.view_is) c.swap.ensures.swapped

pub returns-clause-numbers : goal.returns-clause-numbers
returns-clause-numbers c =
    let live = rw (← c.self.view_is) at c.requires.live in
    let root = rw (← c.self.view_is) at c.requires.root in
    rw (← c.self.view_is)
    (numbers_swapped c.self.inside.spec c.self.inside.view c.self.inside.trees c.swap.new.self c.self.inside.pool c.self.invariant.0 c.args.at c.args.detached live root c.swap.ensures.swapped c.swap.ensures.unchanged c.swap.ensures.parts)

pub returns-clause-replaced : goal.returns-clause-replaced
returns-clause-replaced c =
    subst (λ (g : Grove). ReplacesTerms g (grove c.self.inside.spec c.self.inside.view c.swap.new.self c.self.inside.pool) c.args.at c.args.detached) c.self.view_is
    (Holds-replaced c.self.inside.spec c.self.inside.view c.self.inside.trees c.swap.new.self c.self.inside.pool c.self.invariant.0 c.args.at c.args.detached c.swap.ensures.replaced)

pub returns-clause-terms : goal.returns-clause-terms
returns-clause-terms c =
    rw (← c.self.view_is)
    (λ m t not h. Holds-stays c.self.inside.spec c.self.inside.view c.self.inside.trees c.swap.new.self c.self.inside.pool c.self.inside.pool (grown_itself c.self.inside.pool) c.self.invariant.0 m t (λ tree s. c.swap.ensures.trees m tree not s) h)

pub returns-clause-placed : goal.returns-clause-placed
returns-clause-placed c = rw (← c.self.view_is) c.swap.ensures.placed

pub returns-clause-roots : goal.returns-clause-roots
returns-clause-roots c = rw (← c.self.view_is) c.swap.ensures.roots

pub returns-clause-ways : goal.returns-clause-ways
returns-clause-ways c = rw (← c.self.view_is) c.swap.ensures.ways

pub returns-clause-ways_over : goal.returns-clause-ways_over
returns-clause-ways_over c = subst (λ (g : Grove). MovesWays (nodes g) (node_at c.swap.new.self) c.args.at c.args.detached) c.self.view_is c.swap.ensures.ways_over

pub returns-clause-ways_below : goal.returns-clause-ways_below
returns-clause-ways_below c = rw (← c.self.view_is) c.swap.ensures.ways_below
