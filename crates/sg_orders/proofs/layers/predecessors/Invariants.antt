use Rattle.std.specs.Prelude.{◌≡◌, ℕ, ◌<◌, length, slice_index, take}
use Rattle.sg_sets.specs.Relations.{predecessors}
use Rattle.sg_orders.proofs.layers.predecessors.Given as goal

abbrev pub invariant-loop-a : goal.invariant-loop-a
invariant-loop-a l = record {
  size : length l.counts.items ≡ length l.relation;
  each : (b : ℕ) → b < length l.relation → slice_index l.counts.items b ≡ predecessors (take l.a l.relation) b;
}
