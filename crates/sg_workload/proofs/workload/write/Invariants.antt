use Rattle.std.proofs.Common.{◌≡◌, ◌^◌, ◌<◌, ◌++◌}
use Rattle.sg_workload.specs.Workload.{number_at, statements}
use Rattle.sg_workload.proofs.workload.write.Given as goal

-- the statements so far
abbrev pub invariant-loop-i : goal.invariant-loop-i
invariant-loop-i l = record {
  number : l.x ≡ number_at l.count l.i;
  small : l.x < 2 ^ 31;
  commands : l.commands.items ≡ l.initial.commands.items ++ statements l.count l.i;
}
