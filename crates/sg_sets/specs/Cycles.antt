-- Cycles of a relation, written from one of their vertices on: the last vertex leads back to the first.
use Rattle.std.specs.Prelude.{◌≡◌, ℕ, ◌<◌, ◌≤◌, ◌⊎◌, ⊤, List, [], ◌∷◌, length, slice_index, Contains}
use Rattle.sg_sets.specs.Paths.{Leads}

-- xs comes no later than ys in the order of sequences
abbrev pub NotAfter : List ℕ → List ℕ → Type 0
NotAfter [] ys = ⊤
NotAfter (x ∷ xs) [] = ⊥
NotAfter (x ∷ xs) (y ∷ ys) = (x < y) ⊎ ((x ≡ y) × NotAfter xs ys)

module _ (R : ℕ → ℕ → Type 0) where
  abbrev pub IsCycle : List ℕ → Type 0
  IsCycle [] = ⊥
  IsCycle (a ∷ via) = Leads R a via a

  -- d is a cycle from the first vertex of c on
  abbrev pub IsCycleFrom : List ℕ → List ℕ → Type 0
  IsCycleFrom c d = IsCycle d × (slice_index d 0 ≡ slice_index c 0)

  abbrev pub HasNoCycle : Type 0
  HasNoCycle = (d : List ℕ) → ¬ (IsCycle d)

  -- no vertex of any cycle is below the first of c
  abbrev pub StartsLeast : List ℕ → Type 0
  StartsLeast c = (d : List ℕ) (v : ℕ) → IsCycle d → Contains d v → slice_index c 0 ≤ v

  -- no cycle from there is shorter than c
  abbrev pub IsShortest : List ℕ → Type 0
  IsShortest c = (d : List ℕ) → IsCycleFrom c d → length c ≤ length d

  -- of those as short as c none comes before it
  abbrev pub IsLeast : List ℕ → Type 0
  IsLeast c = (d : List ℕ) → IsCycleFrom c d → length d ≡ length c → NotAfter c d
