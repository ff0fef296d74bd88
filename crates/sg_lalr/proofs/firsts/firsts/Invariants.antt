use Rattle.std.proofs.Common.{◌≡◌, ℕ, ◌<◌, length}
use Rattle.std.specs.Prelude.{◌↔◌}
use Rattle.sg_sets.specs.Rows.{Holds}
use Rattle.sg_lalr.proofs.firsts.firsts.Given as goal

abbrev pub invariant-loop-x : goal.invariant-loop-x
invariant-loop-x l = record {
  count : length l.rows.rows ≡ l.g.symbols;
  width : l.rows.width ≡ l.g.terminals;
  own : (X u : ℕ) → Holds l.rows.rows X u ↔ ((X < l.x) × (u ≡ X));
}
