use Rattle.std.proofs.Common.{◌-◌, length}
use Rattle.sg_lalr.proofs.MergeLemmas.{Merged}
use Rattle.sg_lalr.proofs.closure.merge.Given as goal

abbrev pub invariant-opened : goal.invariant-opened
invariant-opened l = Merged l.opened l.kernel l.items.items l.at l.p-index

abbrev pub invariant-kept : goal.invariant-kept
invariant-kept l = Merged l.opened l.kernel l.items.items l.at l.p-index

abbrev pub decreases-kept : goal.decreases-kept
decreases-kept l = length l.kernel - l.at
