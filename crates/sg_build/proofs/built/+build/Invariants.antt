use Rattle.std.proofs.Common.{◌≡◌, ◌≤◌, ◌+◌, ◌*◌, length, take, vec_capacity}
use Rattle.sg_kinds.specs.Terms.{height_of, height_of_all, kids_of}
use Rattle.sg_terms.specs.Kept.{AllHold}
use Rattle.sg_build.specs.Grown.{GrewBy}
use Rattle.sg_build.proofs.built.+build.Given as goal

abbrev pub decreases-tree_of : goal.decreases-tree_of
decreases-tree_of l = 3 * height_of l.t.now

abbrev pub decreases-node_over : goal.decreases-node_over
decreases-node_over l = 3 * height_of_all (kids_of l.kids.now) + 2

abbrev pub decreases-trees_of : goal.decreases-trees_of
decreases-trees_of l = 3 * height_of_all (kids_of l.kids.now) + 1

abbrev pub invariant-trees_of-loop-kid : goal.invariant-trees_of-loop-kid
invariant-trees_of-loop-kid l = record {
  count : length l.roots.items ≡ l.kid-index;
  room : length l.kids ≤ vec_capacity l.roots;
  held : AllHold l.terms l.roots.items (kids_of (take l.kid-index l.kids));
  grew : GrewBy l.initial.terms l.terms l.roots.items;
}
