use Rattle.std.proofs.Common.{◌≡◌, ◌+◌, refl, sym, ◌∙◌, arith}
use Rattle.slab.specs.Slab.{slab_len}
use Rattle.sg_forest.proofs.Dropping.{IsDropping-start, IsDropping-down, IsDropped-last, live_here}
use Rattle.sg_forest.proofs.Slots.{contains_key, leaf_of, others_by_id}
use Rattle.sg_forest.proofs.Walk.{falls_down, falls_up, parent_is_there, IsDropping-turn}
use Rattle.sg_forest.proofs.nodes.remove_tree.Goals as goal

pub walk-init : goal.walk-init
walk-init g c = record {
  dropping = IsDropping-start _ c.args.root c.requires.linked c.requires.root;
  capacity = refl;
  len = omega arith;
}

pub index-requires : goal.index-requires
index-requires g c = contains_key c.walk.nodes c.walk.at (live_here _ c.args.root _ c.walk.at c.walk.invariant.dropping)

pub walk-preserved-in-Some : goal.walk-preserved-in-Some
walk-preserved-in-Some g c = record {
  dropping = IsDropping-down _ c.args.root _ c.walk.at c.walk.invariant.dropping c.index.result.now c.in-Some.kid c.index.ensures (sym c.in-Some.ensures);
  capacity = c.walk.invariant.capacity;
  len = c.walk.invariant.len;
}

pub walk-smaller-in-Some : goal.walk-smaller-in-Some
walk-smaller-in-Some g c = falls_down c.walk.nodes _ c.args.root c.walk.at c.walk.invariant.dropping c.index.result.now c.in-Some.kid c.index.ensures c.in-Some.ensures

pub pop_kid-requires : goal.pop_kid-requires
pop_kid-requires g c =
    parent_is_there c.walk.nodes c.remove_node.new.nodes _ c.args.root c.walk.at c.in-Some-remove_node.parent c.in-Some-remove_node.field-0-1 c.walk.invariant.dropping
    c.index.result.now c.index.ensures c.in-None.ensures c.in-Some-remove_node.ensures.up c.remove_node.ensures.gone c.remove_node.ensures.others

pub walk-preserved : goal.walk-preserved
walk-preserved g c = record {
  dropping = IsDropping-turn c.walk.nodes c.remove_node.new.nodes _ c.args.root c.walk.at c.in-Some-remove_node.parent c.in-Some-remove_node.field-0-1 c.walk.invariant.dropping
      c.index.result.now c.index.ensures c.in-None.ensures c.in-Some-remove_node.ensures.up c.remove_node.ensures.gone c.remove_node.ensures.others
      c.pop_kid.new.nodes c.pop_kid.ensures.written c.pop_kid.ensures.others;
  capacity = c.pop_kid.ensures.capacity ∙ c.remove_node.ensures.capacity ∙ c.walk.invariant.capacity;
  len = omega (arith, c.pop_kid.ensures.len, c.remove_node.ensures.len, c.walk.invariant.len);
}

pub walk-smaller : goal.walk-smaller
walk-smaller g c =
    let fewer : slab_len c.pop_kid.new.nodes + 1 ≡ slab_len c.walk.nodes = omega (arith, c.pop_kid.ensures.len, c.remove_node.ensures.len) in
    falls_up c.walk.nodes c.remove_node.new.nodes _ c.args.root c.walk.at c.in-Some-remove_node.parent c.in-Some-remove_node.field-0-1 c.walk.invariant.dropping
    c.index.result.now c.index.ensures c.in-None.ensures c.in-Some-remove_node.ensures.up c.remove_node.ensures.gone c.remove_node.ensures.others
    c.pop_kid.new.nodes c.pop_kid.ensures.written c.pop_kid.ensures.others fewer

pub returns-in-None-remove_node-clause-dropped : goal.returns-in-None-remove_node-clause-dropped
returns-in-None-remove_node-clause-dropped g c =
    IsDropped-last _ c.args.root _ c.walk.at c.walk.invariant.dropping _ c.requires.linked
    (leaf_of c.walk.nodes c.walk.at c.index.result.now c.index.ensures c.in-None.ensures)
    (record { node = c.index.result.now; found = c.index.ensures; top = sym (c.in-None-remove_node.ensures.up c.index.result.now c.index.ensures) })
    c.remove_node.ensures.gone
    (others_by_id c.walk.nodes c.remove_node.new.nodes c.walk.at c.remove_node.ensures.others)
