use Rattle.std.proofs.Common.{ℕ, ◌≡◌, ◌<◌, length}
use Rattle.std.specs.Prelude.{◌↔◌}
use Rattle.sg_sets.specs.Members.{Has, missing_of}
use Rattle.sg_lalr.specs.Least.{HasOnly}
use Rattle.sg_lalr.proofs.least_set.least_set.Given as goal

abbrev pub invariant-loop-x : goal.invariant-loop-x
invariant-loop-x l = (length l.set ≡ l.g.symbols) × ((X : ℕ) → Has l.set X ↔ (X < l.x))

abbrev pub invariant-loop : goal.invariant-loop
invariant-loop l = record {
  width : length l.set ≡ l.g.symbols;
  below : (X : ℕ) → X < l.low → Has l.set X;
  only : HasOnly l.g.rules l.low l.set;
}

abbrev pub decreases-loop : goal.decreases-loop
decreases-loop l = missing_of l.set
