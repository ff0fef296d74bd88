use Rattle.std.proofs.Common.{◌≡◌}
use Rattle.slab.specs.Slab.{slab_len}
use Rattle.sg_forest.specs.Trees.{node_in}
use Rattle.sg_forest.proofs.Linked.{IsHung}
use Rattle.sg_forest.proofs.nodes.link_kids.Given as goal

abbrev pub invariant-loop-k : goal.invariant-loop-k
invariant-loop-k g l = record {
  hung : IsHung (node_in l.fn.nodes) (node_in l.nodes) l.parent l.kids l.k;
  vacant_key : l.nodes.vacant_key ≡ l.fn.nodes.vacant_key;
  capacity : l.nodes.capacity ≡ l.fn.nodes.capacity;
  len : slab_len l.nodes ≡ slab_len l.fn.nodes;
}
