use Rattle.std.proofs.Common.{◌≡◌, ℕ, ◌⊎◌, length}
use Rattle.std.specs.Prelude.{◌↔◌}
use Rattle.sg_sets.specs.Rows.{Holds}
use Rattle.sg_dependencies.specs.Rounds.{IsNamed}
use Rattle.sg_dependencies.proofs.equations.relate.Given as goal

abbrev pub invariant-loop-arg : goal.invariant-loop-arg
invariant-loop-arg l = record {
  size : length l.relation ≡ length l.fn.relation;
  relates : (m n : ℕ) → Holds l.relation m n ↔ (Holds l.fn.relation m n ⊎ IsNamed l.frame l.rule l.arg-index m n);
}
