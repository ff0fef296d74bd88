use Rattle.std.proofs.Common.{◌≡◌, ◌≤◌, ◌+◌, ◌-◌, ◌^◌, min, max, drop}
use Rattle.sg_kinds.specs.Terms.{nodes_of, nodes_of_all, height_of, height_of_all, kids_of}
use Rattle.sg_forest.specs.Trees.{room_below}
use Rattle.sg_build.proofs.Told.{kids_in, the_term}
use Rattle.sg_build.proofs.held.+counts_below.Given as goal

abbrev pub decreases-counts_below : goal.decreases-counts_below
decreases-counts_below l = room_below l.terms.now.trees l.n

-- what is left decides
abbrev pub invariant-loop-k : goal.invariant-loop-k
invariant-loop-k l =
    record {
      nodes_capped : l.nodes ≤ 2 ^ 64 - 1;
      depth_capped : l.depth ≤ 2 ^ 64 - 1;
      nodes : min (l.nodes + nodes_of_all (kids_of (drop l.k (kids_in (the_term l.terms l.n))))) (2 ^ 64 - 1) ≡ min (nodes_of (the_term l.terms l.n)) (2 ^ 64 - 1);
      depth : min (1 + max l.depth (height_of_all (kids_of (drop l.k (kids_in (the_term l.terms l.n)))))) (2 ^ 64 - 1) ≡ min (height_of (the_term l.terms l.n)) (2 ^ 64 - 1);
    }
