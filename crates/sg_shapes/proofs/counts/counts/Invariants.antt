use Rattle.std.proofs.Common.{◌≡◌, ◌-◌}
use Rattle.sg_shapes.specs.Counts.{deepened, no_counts}
use Rattle.sg_shapes.proofs.counts.counts.Given as goal

abbrev pub invariant-loop-round : goal.invariant-loop-round
invariant-loop-round l = deepened l.phyla l.ops (l.depth - l.round) l.counts.items ≡ deepened l.phyla l.ops l.depth (no_counts l.phyla)
