use Rattle.std.proofs.Common.{◌≡◌, min, length}
use Rattle.sg_samples.proofs.Known.{AreFirst}
use Rattle.sg_samples.proofs.table.first_samples.Given as goal

abbrev pub invariant-loop-x : goal.invariant-loop-x
invariant-loop-x l = (length l.samples.items ≡ l.x) × AreFirst l.samples.items (min l.x l.g.terminals)
