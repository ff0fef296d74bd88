-- The cycle of a relation that is reported.
use Rattle.std.specs.Prelude.{ℕ, List}
use Rattle.sg_sets.specs.Cycles.{IsCycle, StartsLeast, IsShortest, IsLeast}

-- from the least vertex of any cycle, a shortest one from there, and of those the least sequence
pub record IsReported (R : ℕ → ℕ → Type 0) (c : List ℕ) : Type 0 where
  pub cycle : IsCycle R c
  pub start : StartsLeast R c
  pub shortest : IsShortest R c
  pub least : IsLeast R c
