use Rattle.std.proofs.Common.{◌≡◌, ◌≤◌, ◌^◌, drop}
use Rattle.std.specs.Prelude.{max}
use Rattle.sg_schemes.specs.ShownFlags.{past_all}
use Rattle.sg_schemes.proofs.shown.past_all.Given as goal

abbrev pub invariant-loop-operator : goal.invariant-loop-operator
invariant-loop-operator l = (max l.most (past_all (drop l.operator-index l.ops)) ≡ past_all l.ops) × (l.most ≤ 2 ^ 32)
