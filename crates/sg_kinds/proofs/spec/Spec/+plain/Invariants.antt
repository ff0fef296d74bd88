use Rattle.std.proofs.Common.{◌*◌, ◌+◌}
use Rattle.sg_kinds.specs.Values.{depth_of, depths_of, row_of}
use Rattle.sg_kinds.specs.Specification.{args_of}
use Rattle.sg_kinds.proofs.Planned.{ArePlain}
use Rattle.sg_kinds.proofs.spec.Spec.+plain.Given as goal

abbrev pub decreases-plain : goal.decreases-plain
decreases-plain l = 2 * depth_of l.v.now

abbrev pub decreases-plain_all : goal.decreases-plain_all
decreases-plain_all l = 2 * depths_of (row_of l.kids.now) + 1

abbrev pub invariant-plain_all-loop-k : goal.invariant-plain_all-loop-k
invariant-plain_all-loop-k l = ArePlain l.self l.kids (args_of l.self.ops l.op) l.terms.items l.k
