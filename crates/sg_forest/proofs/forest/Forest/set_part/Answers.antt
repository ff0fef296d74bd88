use Rattle.sg_forest.proofs.Mapped.{node_at-slab}
use Rattle.sg_forest.proofs.Shape.{IsForest-shape, KeepsShape-part_set}
use Rattle.sg_forest.proofs.Laws.{ChangesTrees-part_set, KeepsTreesWithout-part_set}
use Rattle.sg_forest.proofs.Depth.{room_below-shape}
use Rattle.sg_forest.proofs.Slots.{IsPartSet-written}
use Rattle.sg_forest.proofs.forest.Forest.set_part.Goals as goal

pub invariant_of-self : goal.invariant_of-self
invariant_of-self g c =
    let live = rw (← c.self.view_is, node_at-slab) at c.requires.live in
    let set = IsPartSet-written c.self.inside.nodes c.set_part.new.nodes c.args.n c.set_part.ensures.others c.args.part c.set_part.ensures.written in
    IsForest-shape _ _ (KeepsShape-part_set _ _ c.args.n c.args.part live set) _ _ _ c.self.invariant

pub returns-clause-set : goal.returns-clause-set
returns-clause-set g c =
    rw (← c.self.view_is, node_at-slab c.self.inside.nodes, node_at-slab c.set_part.new.nodes)
    (IsPartSet-written c.self.inside.nodes c.set_part.new.nodes c.args.n c.set_part.ensures.others c.args.part c.set_part.ensures.written)

pub returns-clause-shape : goal.returns-clause-shape
returns-clause-shape g c =
    let live = rw (← c.self.view_is, node_at-slab) at c.requires.live in
    let set = IsPartSet-written c.self.inside.nodes c.set_part.new.nodes c.args.n c.set_part.ensures.others c.args.part c.set_part.ensures.written in
    rw (← c.self.view_is, node_at-slab c.self.inside.nodes, node_at-slab c.set_part.new.nodes) (KeepsShape-part_set _ _ c.args.n c.args.part live set)

pub returns-clause-changed : goal.returns-clause-changed
returns-clause-changed g c =
    let set = IsPartSet-written c.self.inside.nodes c.set_part.new.nodes c.args.n c.set_part.ensures.others c.args.part c.set_part.ensures.written in
    rw (← c.self.view_is, node_at-slab c.self.inside.nodes, node_at-slab c.set_part.new.nodes) (ChangesTrees-part_set _ _ c.self.invariant.linked c.args.n c.args.part set)

pub returns-clause-trees : goal.returns-clause-trees
returns-clause-trees g c =
    let set = IsPartSet-written c.self.inside.nodes c.set_part.new.nodes c.args.n c.set_part.ensures.others c.args.part c.set_part.ensures.written in
    rw (← c.self.view_is, node_at-slab c.self.inside.nodes, node_at-slab c.set_part.new.nodes) (KeepsTreesWithout-part_set _ _ c.self.invariant.linked c.args.n c.args.part set)

pub returns-clause-room : goal.returns-clause-room
returns-clause-room g c =
    let live = rw (← c.self.view_is, node_at-slab) at c.requires.live in
    let set = IsPartSet-written c.self.inside.nodes c.set_part.new.nodes c.args.n c.set_part.ensures.others c.args.part c.set_part.ensures.written in
    rw (← c.self.view_is) (room_below-shape c.self.inside.nodes c.set_part.new.nodes (KeepsShape-part_set _ _ c.args.n c.args.part live set) c.set_part.ensures.len)

pub returns-clause-forest : goal.returns-clause-forest
returns-clause-forest g c = rw (node_at-slab c.set_part.new.nodes) (invariant_of-self g c)
