use Rattle.std.proofs.Common.{◌≡◌, drop}
use Rattle.sg_ast.specs.FirstFault.{first, over}
use Rattle.sg_counts.proofs.limits.first_over.Given as goal

abbrev pub invariant-loop-count : goal.invariant-loop-count
invariant-loop-count l = first (over l.limit) (drop l.count-index l.counts) ≡ first (over l.limit) l.counts
