-- Flags for rows whose numbers may not have gone along all links yet.
use Rattle.std.specs.Prelude.{ℕ, ◌≤◌, ◌⊎◌, Bool, List, length}
use Rattle.sg_sets.specs.Members.{Has}
use Rattle.sg_sets.specs.Paths.{Reaches, Linked}
use Rattle.sg_sets.specs.Rows.{Table, Holds, SameShape}

-- row a is flagged; past the width of the flags each row is
abbrev pub IsFresh : List Bool → ℕ → Type 0
IsFresh flags a = (length flags ≤ a) ⊎ Has flags a

-- row b has all of row a
abbrev pub HasPassed : List (List Bool) → ℕ → ℕ → Type 0
HasPassed rows a b = (y : ℕ) → Holds rows a y → Holds rows b y

-- along each link the second row has all of the first, or the first is flagged
abbrev pub AreFlagged : List (ℕ × ℕ) → List (List Bool) → List Bool → Type 0
AreFlagged links rows flags = (a b : ℕ) → Linked links a b → HasPassed rows a b ⊎ IsFresh flags a

-- numbers of the rows have come along links, and none has gone
pub record Flows (links : List (ℕ × ℕ)) (old new : Table) : Type 0 where
  pub shape : SameShape old new
  pub sound : (x y : ℕ) → Holds new.rows x y → (s : ℕ) × Holds old.rows s y × Reaches (Linked links) s x
  pub keeps : (x y : ℕ) → Holds old.rows x y → Holds new.rows x y
