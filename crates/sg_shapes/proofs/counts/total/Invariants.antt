use Rattle.std.proofs.Common.{◌≡◌, drop}
use Rattle.sg_shapes.specs.Counts.{look, total}
use Rattle.sg_shapes.proofs.counts.total.Given as goal

abbrev pub invariant-loop-p : goal.invariant-loop-p
invariant-loop-p l = total (look l.counts) l.total (drop l.p-index l.phyla) ≡ total (look l.counts) l.first l.phyla
