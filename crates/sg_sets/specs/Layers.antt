-- Layers round a goal: the vertices from which few steps lead to it.
use Rattle.std.specs.Prelude.{◌≡◌, ℕ, suc, ◌<◌, ◌≤◌, ◌↔◌, Bool, List, length}
use Rattle.sg_sets.specs.Cycles.{NotAfter}
use Rattle.sg_sets.specs.Members.{Has}
use Rattle.sg_sets.specs.Paths.{Leads}
use Rattle.sg_sets.specs.Rows.{row_of}

module _ (R : ℕ → ℕ → Type 0) (goal : ℕ) where
  -- the set has just the vertices that lead to the goal by way of fewer than m others
  pub record IsLayer (width m : ℕ) (set : List Bool) : Type 0 where
    pub width_is : length set ≡ width
    pub within : (v : ℕ) → Has set v ↔ ((via : List ℕ) × Leads R v via goal × (length via < m))

  -- layer k is that by way of at most k others
  abbrev pub AreLayers : ℕ → List (List Bool) → Type 0
  AreLayers width layers = (k : ℕ) → k < length layers → IsLayer width (suc k) (row_of layers k)

  -- v leads to the goal by way of m others and not of fewer
  pub record IsApart (v m : ℕ) : Type 0 where
    pub shortest : (via : List ℕ) → Leads R v via goal → m ≤ length via
    pub reached : (via : List ℕ) × Leads R v via goal × (length via ≡ m)

  -- from v this way is the least of those by way of m others
  pub record IsLeastWay (v m : ℕ) (via : List ℕ) : Type 0 where
    pub leads : Leads R v via goal
    pub long : length via ≡ m
    pub least : (other : List ℕ) → Leads R v other goal → length other ≡ m → NotAfter via other
