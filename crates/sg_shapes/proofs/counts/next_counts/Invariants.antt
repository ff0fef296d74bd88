use Rattle.std.proofs.Common.{◌≡◌, take}
use Rattle.sg_shapes.specs.Counts.{next_counts}
use Rattle.sg_shapes.proofs.counts.next_counts.Given as goal

abbrev pub invariant-loop-phylum : goal.invariant-loop-phylum
invariant-loop-phylum l = l.next.items ≡ next_counts (take l.phylum-index l.phyla) l.ops l.counts
