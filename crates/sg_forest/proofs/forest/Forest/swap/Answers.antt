use Rattle.std.proofs.Common.{ap}
use Rattle.sg_forest.specs.Trees.{node_in, trees_of}
use Rattle.sg_forest.specs.Tree.{ReplacesTrees, KeepsWaysTo, MovesWays}
use Rattle.sg_forest.specs.Steps.{SameSort}
use Rattle.sg_forest.proofs.Mapped.{node_at-slab, carried, given}
use Rattle.sg_forest.proofs.Laws.{KeepsParts-swap, ReplacesTrees-swap, KeepsTreesNotOver-swap, freed_root, placed_child, same_roots, KeepsWaysWithin-swap, ways_below_detached, ways_over_at, IsForest-swap}
use Rattle.sg_forest.proofs.forest.Forest.swap.Goals as goal

pub exchange-requires-clause-live : goal.exchange-requires-clause-live
exchange-requires-clause-live g c = rw (← c.self.view_is, node_at-slab) at c.requires.live

pub exchange-requires-clause-root : goal.exchange-requires-clause-root
exchange-requires-clause-root g c = rw (← c.self.view_is, node_at-slab) at c.requires.root

pub exchange-requires-clause-apart : goal.exchange-requires-clause-apart
exchange-requires-clause-apart g c = rw (← c.self.view_is, node_at-slab) at c.requires.apart

pub invariant_of-self : goal.invariant_of-self
invariant_of-self g c =
    let live = rw (← c.self.view_is, node_at-slab) at c.requires.live in
    let root = rw (← c.self.view_is, node_at-slab) at c.requires.root in
    let apart = rw (← c.self.view_is, node_at-slab) at c.requires.apart in
    let sorts = given (λ f. SameSort g.L.Label.sort_of f c.args.at c.args.detached) c.self.inside.nodes c.args.self.now c.self.view_is c.requires.sorts in
    IsForest-swap _ _ c.args.at c.args.detached c.self.invariant.linked live root apart c.exchange.ensures.swapped (λ top. ap node_in (c.exchange.ensures.unchanged top)) _ _ _ c.self.invariant sorts

pub returns-clause-swapped : goal.returns-clause-swapped
returns-clause-swapped g c = rw (← c.self.view_is, node_at-slab c.self.inside.nodes, node_at-slab c.exchange.new.nodes) c.exchange.ensures.swapped

pub returns-clause-unchanged : goal.returns-clause-unchanged
returns-clause-unchanged g c =
    rw (← c.self.view_is, node_at-slab c.self.inside.nodes) (λ top. ap trees_of (c.exchange.ensures.unchanged top))

pub returns-clause-parts : goal.returns-clause-parts
returns-clause-parts g c =
    let live = rw (← c.self.view_is, node_at-slab) at c.requires.live in
    let root = rw (← c.self.view_is, node_at-slab) at c.requires.root in
    let apart = rw (← c.self.view_is, node_at-slab) at c.requires.apart in
    rw (← c.self.view_is, node_at-slab c.self.inside.nodes, node_at-slab c.exchange.new.nodes)
    (KeepsParts-swap _ _ c.args.at c.args.detached c.self.invariant.linked live root apart c.exchange.ensures.swapped (λ top. ap node_in (c.exchange.ensures.unchanged top)))

pub returns-clause-replaced : goal.returns-clause-replaced
returns-clause-replaced g c =
    let live = rw (← c.self.view_is, node_at-slab) at c.requires.live in
    let root = rw (← c.self.view_is, node_at-slab) at c.requires.root in
    let apart = rw (← c.self.view_is, node_at-slab) at c.requires.apart in
    carried (λ old new. ReplacesTrees old new c.args.at c.args.detached) c.self.inside.nodes c.exchange.new.nodes c.args.self.now c.self.view_is
    (ReplacesTrees-swap _ _ c.args.at c.args.detached c.self.invariant.linked live root apart c.exchange.ensures.swapped (λ top. ap node_in (c.exchange.ensures.unchanged top)))

pub returns-clause-trees : goal.returns-clause-trees
returns-clause-trees g c =
    let live = rw (← c.self.view_is, node_at-slab) at c.requires.live in
    let root = rw (← c.self.view_is, node_at-slab) at c.requires.root in
    let apart = rw (← c.self.view_is, node_at-slab) at c.requires.apart in
    rw (← c.self.view_is, node_at-slab c.self.inside.nodes, node_at-slab c.exchange.new.nodes)
    (KeepsTreesNotOver-swap _ _ c.args.at c.args.detached c.self.invariant.linked live root apart c.exchange.ensures.swapped (λ top. ap node_in (c.exchange.ensures.unchanged top)))

pub returns-clause-placed : goal.returns-clause-placed
returns-clause-placed g c =
    let live = rw (← c.self.view_is, node_at-slab) at c.requires.live in
    let root = rw (← c.self.view_is, node_at-slab) at c.requires.root in
    let apart = rw (← c.self.view_is, node_at-slab) at c.requires.apart in
    rw (← c.self.view_is, node_at-slab c.self.inside.nodes, node_at-slab c.exchange.new.nodes)
    (placed_child _ _ c.args.at c.args.detached c.self.invariant.linked live root apart c.exchange.ensures.swapped (λ top. ap node_in (c.exchange.ensures.unchanged top)))

pub returns-clause-roots : goal.returns-clause-roots
returns-clause-roots g c =
    let live = rw (← c.self.view_is, node_at-slab) at c.requires.live in
    let root = rw (← c.self.view_is, node_at-slab) at c.requires.root in
    let apart = rw (← c.self.view_is, node_at-slab) at c.requires.apart in
    rw (← c.self.view_is, node_at-slab c.self.inside.nodes, node_at-slab c.exchange.new.nodes)
    (same_roots _ _ c.args.at c.args.detached c.self.invariant.linked live root apart c.exchange.ensures.swapped (λ top. ap node_in (c.exchange.ensures.unchanged top)))

pub returns-clause-ways : goal.returns-clause-ways
returns-clause-ways g c =
    let live = rw (← c.self.view_is, node_at-slab) at c.requires.live in
    let root = rw (← c.self.view_is, node_at-slab) at c.requires.root in
    let apart = rw (← c.self.view_is, node_at-slab) at c.requires.apart in
    rw (← c.self.view_is, node_at-slab c.self.inside.nodes, node_at-slab c.exchange.new.nodes)
    (KeepsWaysWithin-swap _ _ c.args.at c.args.detached c.self.invariant.linked live root apart c.exchange.ensures.swapped (λ top. ap node_in (c.exchange.ensures.unchanged top)))

pub returns-clause-freed : goal.returns-clause-freed
returns-clause-freed g c =
    let live = rw (← c.self.view_is, node_at-slab) at c.requires.live in
    let root = rw (← c.self.view_is, node_at-slab) at c.requires.root in
    let apart = rw (← c.self.view_is, node_at-slab) at c.requires.apart in
    rw (node_at-slab c.exchange.new.nodes) (freed_root _ _ c.args.at c.args.detached c.self.invariant.linked live root apart c.exchange.ensures.swapped (λ top. ap node_in (c.exchange.ensures.unchanged top)))

pub returns-clause-forest : goal.returns-clause-forest
returns-clause-forest g c = rw (node_at-slab c.exchange.new.nodes) (invariant_of-self g c)

pub returns-clause-ways_over : goal.returns-clause-ways_over
returns-clause-ways_over g c =
    let live = rw (← c.self.view_is, node_at-slab) at c.requires.live in
    let root = rw (← c.self.view_is, node_at-slab) at c.requires.root in
    let apart = rw (← c.self.view_is, node_at-slab) at c.requires.apart in
    carried (λ old new. MovesWays old new c.args.at c.args.detached) c.self.inside.nodes c.exchange.new.nodes c.args.self.now c.self.view_is
    (ways_over_at _ _ c.args.at c.args.detached c.self.invariant.linked live root apart c.exchange.ensures.swapped (λ top. ap node_in (c.exchange.ensures.unchanged top)))

pub returns-clause-ways_below : goal.returns-clause-ways_below
returns-clause-ways_below g c =
    let live = rw (← c.self.view_is, node_at-slab) at c.requires.live in
    let root = rw (← c.self.view_is, node_at-slab) at c.requires.root in
    let apart = rw (← c.self.view_is, node_at-slab) at c.requires.apart in
    carried (λ old new. KeepsWaysTo old new c.args.detached) c.self.inside.nodes c.exchange.new.nodes c.args.self.now c.self.view_is
    (ways_below_detached _ _ c.args.at c.args.detached c.self.invariant.linked live root apart c.exchange.ensures.swapped (λ top. ap node_in (c.exchange.ensures.unchanged top)))
