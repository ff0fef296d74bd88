use Rattle.std.proofs.Common.{◌<◌}
use Rattle.sg_sets.proofs.FlowLemmas.{Flowed}
use Rattle.sg_sets.proofs.rows.Rows.flow_forth.Given as goal

abbrev pub invariant-loop-from : goal.invariant-loop-from
invariant-loop-from l = Flowed l.links l.fn.self l.self l.was l.fresh (λ k. k < l.from-index) l.grown
