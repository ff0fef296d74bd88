use Rattle.std.proofs.Common.{◌≡◌, length}
use Rattle.sg_patterns.specs.Rows.{AreRuns}
use Rattle.sg_patterns.proofs.rows.runs_of.Given as goal

abbrev pub invariant-loop-byte : goal.invariant-loop-byte
invariant-loop-byte l = record {
  each : length l.alike.items ≡ l.byte;
  runs : AreRuns l.program l.alike.items;
}
