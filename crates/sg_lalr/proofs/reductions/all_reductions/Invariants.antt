use Rattle.std.proofs.Common.{◌≡◌, ℕ, suc, ◌<◌, length}
use Rattle.std.specs.Prelude.{◌↔◌, slice_index}
use Rattle.sg_lalr.specs.Reductions.{ReducesBy, DoesReduce, reductions_at}
use Rattle.sg_lalr.proofs.reductions.all_reductions.Given as goal

abbrev pub invariant-loop-state : goal.invariant-loop-state
invariant-loop-state l = record {
  count : length l.rows.items ≡ l.state;
  each : (s p t : ℕ) → s < l.state → ReducesBy (reductions_at l.rows.items s) p t ↔ DoesReduce l.g l.looks.layout.nodes.items l.looks.rows.rows (slice_index l.looks.layout.firsts.items s) (slice_index l.looks.layout.firsts.items (suc s)) p t;
}
