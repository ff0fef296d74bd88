use Rattle.std.specs.Prelude.{◌≡◌, ℕ, ◌+◌, ◌-◌, ◌<◌, ◌≤◌, false, length, slice_index}
use Rattle.sg_sets.specs.Members.{has, Has}
use Rattle.sg_orders.proofs.layers.count_each.Given as goal

abbrev pub invariant-loop-b : goal.invariant-loop-b
invariant-loop-b l = record {
  size : length l.counts ≡ length l.set;
  members : (b : ℕ) → b < l.from → Has l.set b → slice_index l.counts b ≡ slice_index l.initial.counts b + 1;
  others : (b : ℕ) → has l.set b ≡ false → slice_index l.counts b ≡ slice_index l.initial.counts b;
  rest : (b : ℕ) → l.from ≤ b → slice_index l.counts b ≡ slice_index l.initial.counts b;
}

abbrev pub decreases-loop-b : goal.decreases-loop-b
decreases-loop-b l = length l.set - l.from
