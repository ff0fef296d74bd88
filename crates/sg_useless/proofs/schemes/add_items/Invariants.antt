use Rattle.std.proofs.Common.{◌≡◌, ◌≤◌, ◌++◌, drop}
use Rattle.sg_useless.specs.Uses.{item_uses}
use Rattle.sg_useless.proofs.schemes.add_items.Given as goal

abbrev pub invariant-loop-item : goal.invariant-loop-item
invariant-loop-item l = record {
  so_far : l.uses.items ++ item_uses l.spec l.op l.operator l.seen l.k (drop l.item-index l.items) ≡ l.initial.uses.items ++ item_uses l.spec l.op l.operator l.seen 0 l.items;
  few : l.k ≤ l.item-index;
}
