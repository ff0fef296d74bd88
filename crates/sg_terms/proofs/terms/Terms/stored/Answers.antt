use Rattle.std.proofs.lemmas.Option.{slice_get_within}
use Rattle.sg_groves.proofs.Frames.{number_stands}
use Rattle.sg_terms.proofs.Holding.{leaf_told}
use Rattle.sg_terms.proofs.Steps.{grove}
use Rattle.sg_terms.proofs.Written.{number_node, storable_again}
use Rattle.sg_terms.proofs.terms.Terms.stored.Goals as goal

pub number-requires : goal.number-requires
number-requires c = rw (← c.self.view_is) at c.requires

pub returns-clause-number : goal.returns-clause-number
returns-clause-number c = rw (← c.self.view_is) c.number.ensures

pub returns-clause-within : goal.returns-clause-within
returns-clause-within c =
    let v = number_stands _ c.self.invariant.0 c.args.n c.args.slot c.number.result c.number.ensures in
    rw (← c.self.view_is) (slice_get_within _ _ _ v.1)

pub returns-clause-typed : goal.returns-clause-typed
returns-clause-typed c = rw (← c.self.view_is) (λ op is. storable_again _ c.self.invariant.0 c.args.n c.args.slot c.number.result op c.number.ensures is)

pub returns-clause-leaf : goal.returns-clause-leaf
returns-clause-leaf c =
    rw (← c.self.view_is)
    (λ p v h. let x = number_node (grove c.self.inside.spec c.self.inside.view c.self.inside.trees c.self.inside.pool) c.args.n c.args.slot c.number.result c.number.ensures in leaf_told _ c.self.invariant.0 c.args.n x.0 x.1 p v c.args.slot c.number.result h c.number.ensures)
