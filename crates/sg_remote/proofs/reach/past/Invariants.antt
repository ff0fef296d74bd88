use Rattle.std.proofs.Common.{◌≡◌, ◌≤◌, ◌^◌, drop}
use Rattle.std.specs.Prelude.{max}
use Rattle.sg_remote.specs.Reach.{past}
use Rattle.sg_remote.proofs.reach.past.Given as goal

abbrev pub invariant-loop-k : goal.invariant-loop-k
invariant-loop-k l = (max l.most (past (drop l.k-index l.starts)) ≡ past l.starts) × (l.most ≤ 2 ^ 32)
