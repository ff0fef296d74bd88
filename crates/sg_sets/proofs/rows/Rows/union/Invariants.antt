use Rattle.std.proofs.Common.{◌≡◌, ℕ, ◌<◌, ◌⊎◌}
use Rattle.std.specs.Prelude.{◌↔◌}
use Rattle.std.specs.Bool.{OnTrue, OnFalse}
use Rattle.sg_sets.specs.Rows.{Holds, all_missing, SameShape}
use Rattle.sg_sets.proofs.rows.Rows.union.Given as goal

abbrev pub invariant-loop-a : goal.invariant-loop-a
invariant-loop-a l = record {
  shape : SameShape l.fn.self l.self;
  joins : (x y : ℕ) → Holds l.self.rows x y ↔ (Holds l.fn.self.rows x y ⊎ ((x < l.a) × Holds l.other.rows x y));
  grows : OnTrue l.grown (all_missing l.self.rows < all_missing l.fn.self.rows);
  stays : OnFalse l.grown (l.self ≡ l.fn.self);
}
