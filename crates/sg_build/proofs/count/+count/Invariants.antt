use Rattle.std.proofs.Common.{◌≡◌, ◌≤◌, ◌+◌, ◌*◌, ◌-◌, ◌^◌, min, max, drop}
use Rattle.sg_kinds.specs.Terms.{nodes_of_all, height_of, height_of_all, kids_of}
use Rattle.sg_build.proofs.count.+count.Given as goal

abbrev pub decreases-counts : goal.decreases-counts
decreases-counts l = 2 * height_of l.t.now

abbrev pub decreases-counts_over : goal.decreases-counts_over
decreases-counts_over l = 2 * height_of_all (kids_of l.kids.now) + 1

-- what is left decides
abbrev pub invariant-counts_over-loop-kid : goal.invariant-counts_over-loop-kid
invariant-counts_over-loop-kid l =
    record {
      nodes_capped : l.nodes ≤ 2 ^ 64 - 1;
      depth_capped : l.depth ≤ 2 ^ 64 - 1;
      nodes : min (l.nodes + nodes_of_all (kids_of (drop l.kid-index l.kids))) (2 ^ 64 - 1) ≡ min (1 + nodes_of_all (kids_of l.kids)) (2 ^ 64 - 1);
      depth : min (1 + max l.depth (height_of_all (kids_of (drop l.kid-index l.kids)))) (2 ^ 64 - 1) ≡ min (1 + height_of_all (kids_of l.kids)) (2 ^ 64 - 1);
    }
