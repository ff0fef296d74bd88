use Rattle.std.proofs.Common.{◌≡◌, drop}
use Rattle.sg_schemes.specs.ShownFlags.{missing_from}
use Rattle.sg_schemes.proofs.shown.missing.Given as goal

abbrev pub invariant-loop-k : goal.invariant-loop-k
invariant-loop-k l = missing_from l.table l.shown l.given l.k (drop l.k l.table.ops) ≡ missing_from l.table l.shown l.given 0 l.table.ops
