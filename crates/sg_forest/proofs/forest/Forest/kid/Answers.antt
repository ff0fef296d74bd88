use Rattle.sg_forest.specs.Trees.{node_in}
use Rattle.sg_forest.specs.Tree.{node, Stands}
use Rattle.sg_forest.proofs.Mapped.{node_at-slab, given}
use Rattle.sg_forest.proofs.Standing.{Stands-kid}
use Rattle.sg_forest.proofs.Depth.{room_below-slab_child}
use Rattle.sg_forest.proofs.forest.Forest.kid.Goals as goal

pub returns-clause-child : goal.returns-clause-child
returns-clause-child g c =
    let child = c.self.invariant.linked.down c.args.n c.args.k c.kid.result (record { node = c.index.result.now; found = c.index.ensures; lists = c.kid.ensures }) in
    rw (← c.self.view_is, node_at-slab c.self.inside.nodes) child

pub returns-clause-falls : goal.returns-clause-falls
returns-clause-falls g c =
    let child = c.self.invariant.linked.down c.args.n c.args.k c.kid.result (record { node = c.index.result.now; found = c.index.ensures; lists = c.kid.ensures }) in
    rw (← c.self.view_is) (room_below-slab_child c.self.inside.nodes c.self.invariant.linked c.kid.result c.args.n c.args.k child)

pub returns-clause-forest : goal.returns-clause-forest
returns-clause-forest g c = rw (← c.self.view_is, node_at-slab c.self.inside.nodes) c.self.invariant

pub returns-clause-tree : goal.returns-clause-tree
returns-clause-tree g c = λ label part ts t stands there.
    let before = given (λ f. Stands f c.args.n (node label part ts)) c.self.inside.nodes c.args.self.now c.self.view_is stands in
    rw (← c.self.view_is, node_at-slab c.self.inside.nodes)
    (Stands-kid (node_in c.self.inside.nodes) c.args.n c.index.result.now label part ts c.args.k c.kid.result t c.index.ensures c.kid.ensures before there)
