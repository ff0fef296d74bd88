use Rattle.std.proofs.Common.{◌≡◌, ◌≤◌, ◌+◌, min, max, drop}
use Rattle.sg_kinds.specs.Values.{depths_of, sizes_of, row_of}
use Rattle.sg_kinds.proofs.value.measures.Given as goal

-- what is left decides
abbrev pub invariant-loop-kid : goal.invariant-loop-kid
invariant-loop-kid l =
    record {
      size_capped : l.size ≤ 65537;
      depth_capped : l.depth ≤ 1025;
      depth_positive : 1 ≤ l.depth;
      size : min (l.size + sizes_of (row_of (drop l.kid-index l.kids))) 65537 ≡ min (1 + sizes_of (row_of l.kids)) 65537;
      depth : min (max l.depth (1 + depths_of (row_of (drop l.kid-index l.kids)))) 1025 ≡ min (1 + depths_of (row_of l.kids)) 1025;
    }
