use Rattle.std.proofs.Common.{◌≡◌, ◌++◌, drop, reverse}
use Rattle.sg_saved.proofs.misfits.push_all.Given as goal

abbrev pub invariant-loop-k : goal.invariant-loop-k
invariant-loop-k l = reverse l.stack.items ≡ drop l.k l.phyla ++ reverse l.initial.stack.items
