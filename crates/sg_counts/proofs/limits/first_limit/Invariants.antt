use Rattle.std.proofs.Common.{◌≡◌, drop}
use Rattle.sg_ast.specs.FirstFault.{first}
use Rattle.sg_counts.specs.Limits.{limit_fault}
use Rattle.sg_counts.proofs.limits.first_limit.Given as goal

abbrev pub invariant-loop-what : goal.invariant-loop-what
invariant-loop-what l = first limit_fault (drop l.what-index l.counts) ≡ first limit_fault l.counts
