use Rattle.std.proofs.Common.{sym}
use Rattle.sg_forest.specs.Trees.{node_in, IsChild}
use Rattle.sg_forest.proofs.Paths.{one_parent, root_is_no_child, parent_differs, child_has_root, top_is_no_parent}
use Rattle.sg_forest.proofs.nodes.exchange.Goals as goal

pub put_in_place-requires-clause-child : goal.put_in_place-requires-clause-child
put_in_place-requires-clause-child g c = record { node = c.index.result.now; found = c.index.ensures; hangs = sym c.in-Some.ensures.up }

pub put_in_place-requires-clause-lists : goal.put_in_place-requires-clause-lists
put_in_place-requires-clause-lists g c = c.requires.linked.upward c.in-Some.parent c.in-Some.k c.args.at (put_in_place-requires-clause-child g c)

pub put_in_place-requires-clause-parent_is_not_at : goal.put_in_place-requires-clause-parent_is_not_at
put_in_place-requires-clause-parent_is_not_at g c =
    let child = put_in_place-requires-clause-child g c in
    parent_differs _ c.args.at c.in-Some.parent c.in-Some.k (child_has_root _ c.requires.linked c.args.at c.in-Some.parent c.in-Some.k child) child

pub put_in_place-requires-clause-parent_is_not_detached : goal.put_in_place-requires-clause-parent_is_not_detached
put_in_place-requires-clause-parent_is_not_detached g c =
    top_is_no_parent _ c.args.at c.in-Some.parent c.args.detached c.in-Some.k (put_in_place-requires-clause-child g c) c.requires.apart

pub put_in_place-requires-clause-detached_is_not_at : goal.put_in_place-requires-clause-detached_is_not_at
put_in_place-requires-clause-detached_is_not_at g c = λ e. root_is_no_child _ c.args.detached c.in-Some.parent c.in-Some.k c.requires.root (rw (← e) at (put_in_place-requires-clause-child g c))

pub returns-in-Some-clause-swapped : goal.returns-in-Some-clause-swapped
returns-in-Some-clause-swapped g c = λ p k child.
    let here : IsChild (node_in c.args.nodes.now) c.args.at c.in-Some.parent c.in-Some.k = record { node = c.index.result.now; found = c.index.ensures; hangs = sym c.in-Some.ensures.up } in
    let one = one_parent _ c.args.at c.in-Some.parent p c.in-Some.k k here child in
    rw (one.0, one.1) at c.put_in_place.ensures.swapped
