use Rattle.sg_forest.proofs.Mapped.{node_at-slab}
use Rattle.sg_forest.proofs.Dropped.{IsForest-dropped}
use Rattle.sg_forest.proofs.Laws.{KeepsTreesOutside-dropped, KeepsWaysOutside-dropped, same_roots_dropped}
use Rattle.sg_forest.proofs.forest.Forest.drop_tree.Goals as goal

pub remove_tree-requires-clause-root : goal.remove_tree-requires-clause-root
remove_tree-requires-clause-root g c = rw (← c.self.view_is, node_at-slab) at c.requires.root

pub invariant_of-self : goal.invariant_of-self
invariant_of-self g c = IsForest-dropped _ _ c.args.root c.self.invariant.linked (rw (← c.self.view_is, node_at-slab) at c.requires.root) c.remove_tree.ensures.dropped _ _ _ c.self.invariant

pub returns-clause-dropped : goal.returns-clause-dropped
returns-clause-dropped g c = rw (← c.self.view_is, node_at-slab c.self.inside.nodes, node_at-slab c.remove_tree.new.nodes) c.remove_tree.ensures.dropped

pub returns-clause-trees : goal.returns-clause-trees
returns-clause-trees g c =
    let root = rw (← c.self.view_is, node_at-slab) at c.requires.root in
    rw (← c.self.view_is, node_at-slab c.self.inside.nodes, node_at-slab c.remove_tree.new.nodes)
    (KeepsTreesOutside-dropped _ _ c.args.root c.self.invariant.linked root c.remove_tree.ensures.dropped)

pub returns-clause-roots : goal.returns-clause-roots
returns-clause-roots g c =
    let root = rw (← c.self.view_is, node_at-slab) at c.requires.root in
    rw (← c.self.view_is, node_at-slab c.self.inside.nodes, node_at-slab c.remove_tree.new.nodes)
    (same_roots_dropped _ _ c.args.root c.self.invariant.linked root c.remove_tree.ensures.dropped)

pub returns-clause-ways : goal.returns-clause-ways
returns-clause-ways g c =
    let root = rw (← c.self.view_is, node_at-slab) at c.requires.root in
    rw (← c.self.view_is, node_at-slab c.self.inside.nodes, node_at-slab c.remove_tree.new.nodes)
    (KeepsWaysOutside-dropped _ _ c.args.root c.self.invariant.linked root c.remove_tree.ensures.dropped)

pub returns-clause-forest : goal.returns-clause-forest
returns-clause-forest g c = rw (node_at-slab c.remove_tree.new.nodes) (invariant_of-self g c)
