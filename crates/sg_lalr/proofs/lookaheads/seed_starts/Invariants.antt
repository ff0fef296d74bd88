use Rattle.std.proofs.Common.{◌≡◌}
use Rattle.sg_sets.specs.Rows.{SameShape}
use Rattle.sg_lalr.specs.Lookaheads.{node_at, IsStart}
use Rattle.sg_lalr.proofs.LinkLemmas.{GainedTo}
use Rattle.sg_lalr.proofs.lookaheads.seed_starts.Given as goal

abbrev pub invariant-loop-a : goal.invariant-loop-a
invariant-loop-a l = SameShape l.initial.rows l.rows × GainedTo l.initial.rows.rows l.rows.rows l.slots l.a (λ c u. IsStart l.g (node_at l.nodes c) × (u ≡ 0))
