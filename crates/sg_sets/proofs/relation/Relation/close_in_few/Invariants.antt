use Rattle.std.proofs.Common.{◌≡◌, ℕ, length}
use Rattle.sg_sets.specs.Paths.{Path}
use Rattle.sg_sets.specs.Rows.{Holds, all_missing}
use Rattle.sg_sets.proofs.relation.Relation.close_in_few.Given as goal

abbrev pub invariant-loop-grown : goal.invariant-loop-grown
invariant-loop-grown l = record {
  size : length l.self ≡ length l.fn.self;
  contains : (a b : ℕ) → Holds l.fn.self a b → Holds l.self a b;
  least : (a b : ℕ) → Holds l.self a b → Path (Holds l.fn.self) a b;
}

abbrev pub decreases-loop-grown : goal.decreases-loop-grown
decreases-loop-grown l = all_missing l.self
