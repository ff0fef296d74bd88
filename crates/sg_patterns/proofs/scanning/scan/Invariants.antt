use Rattle.std.proofs.Common.{length, ◌-◌, ◌≤◌}
use Rattle.sg_patterns.specs.Scan.{Scanned}
use Rattle.sg_patterns.specs.Spent.{HaveFailures}
use Rattle.sg_patterns.proofs.scanning.scan.Given as goal

abbrev pub invariant-loop-at : goal.invariant-loop-at
invariant-loop-at l = (l.at ≤ length l.text) × Scanned l.all l.text l.at l.tokens.items × HaveFailures l.programs l.text l.failures

abbrev pub decreases-loop-at : goal.decreases-loop-at
decreases-loop-at l = length l.text - l.at
