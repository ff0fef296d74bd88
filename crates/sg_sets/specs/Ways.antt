-- Ways from one vertex to another, written from the one to the other: each vertex leads to the next.
use Rattle.std.specs.Prelude.{◌≡◌, ℕ, ◌≤◌, List, [], ◌∷◌, ◌++◌, length}
use Rattle.sg_sets.specs.Cycles.{NotAfter}
use Rattle.sg_sets.specs.Paths.{Leads}

module _ (R : ℕ → ℕ → Type 0) (a b : ℕ) where
  -- a, the vertices between, and b
  abbrev pub IsWay : List ℕ → Type 0
  IsWay w = (via : List ℕ) × (w ≡ a ∷ via ++ b ∷ []) × Leads R a via b

  -- no way is shorter
  abbrev pub IsShortestWay : List ℕ → Type 0
  IsShortestWay w = (d : List ℕ) → IsWay d → length w ≤ length d

  -- of those as short none comes before it
  abbrev pub IsFirstWay : List ℕ → Type 0
  IsFirstWay w = (d : List ℕ) → IsWay d → length d ≡ length w → NotAfter w d
