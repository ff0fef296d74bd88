use Rattle.std.proofs.Common.{◌≡◌, ℕ, ◌≤◌, length}
use Rattle.std.specs.Prelude.{slice_index}
use Rattle.sg_lalr.proofs.SlotLemmas.{Stated}
use Rattle.sg_lalr.proofs.slots.all_slots.Given as goal

abbrev pub invariant-loop-state : goal.invariant-loop-state
invariant-loop-state l = record {
  stated : Stated l.g l.layout.nodes.items l.layout.firsts.items l.state l.slots.of.items l.slots.count;
  symbols : length l.at.items ≡ l.g.symbols;
  past : (X : ℕ) → slice_index l.at.items X ≤ l.slots.count;
}
