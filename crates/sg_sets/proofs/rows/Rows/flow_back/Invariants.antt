use Rattle.std.proofs.Common.{◌+◌, ◌≤◌, length}
use Rattle.sg_sets.proofs.FlowLemmas.{Flowed}
use Rattle.sg_sets.proofs.rows.Rows.flow_back.Given as goal

abbrev pub invariant-loop-passed : goal.invariant-loop-passed
invariant-loop-passed l = Flowed l.links l.fn.self l.self l.was l.fresh (λ k. length l.links ≤ k + l.passed) l.grown
