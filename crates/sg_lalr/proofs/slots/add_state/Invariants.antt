use Rattle.std.proofs.Common.{◌≡◌, ℕ, ◌<◌, length}
use Rattle.std.specs.Prelude.{slice_index}
use Rattle.sg_lalr.proofs.SlotLemmas.{Filled}
use Rattle.sg_lalr.proofs.slots.add_state.Given as goal

abbrev pub invariant-loop-m : goal.invariant-loop-m
invariant-loop-m l = record {
  count : length l.at.items ≡ l.g.symbols;
  filled : Filled l.g l.nodes l.from l.m l.base l.at.items l.slots.of.items l.slots.count;
  keeps : (k : ℕ) → k < l.from → slice_index l.slots.of.items k ≡ slice_index l.initial.slots.of.items k;
}
