-- What a contract sees of `Rows`: a width, and sets of numbers below it.
use Rattle.std.specs.Prelude.{◌≡◌, ℕ, ◌<◌, Bool, [], List, length, sum_by, slice_index_or}
use Rattle.sg_sets.specs.Members.{Has, missing_of}
use Rattle.sg_sets.specs.Paths.{Linked}

pub record Table : Type 0 where
  pub width : ℕ
  pub rows : List (List Bool)

abbrev pub table : ℕ → List (List Bool) → Table
table width rows = record { width = width; rows = rows }

-- row a, or the empty row past the last
abbrev pub row_of : List (List Bool) → ℕ → List Bool
row_of rows a = slice_index_or rows a []

-- row a has b
abbrev pub Holds : List (List Bool) → ℕ → ℕ → Type 0
Holds rows a b = Has (row_of rows a) b

-- how many numbers below the width are not in a row, over all rows
abbrev pub all_missing : List (List Bool) → ℕ
all_missing rows = sum_by missing_of rows

-- each row has this width
abbrev pub AllOfWidth : ℕ → List (List Bool) → Type 0
AllOfWidth width rows = (a : ℕ) → a < length rows → length (row_of rows a) ≡ width

-- two tables have rows of one width, as many in both
pub record SameShape (old new : Table) : Type 0 where
  pub width : new.width ≡ old.width
  pub count : length new.rows ≡ length old.rows

-- both ends of a link are rows
abbrev pub AreRows : List (List Bool) → ℕ × ℕ → Type 0
AreRows rows link = (link.0 < length rows) × (link.1 < length rows)

-- along each link the second row has all of the first
abbrev pub IsSettled : List (ℕ × ℕ) → List (List Bool) → Type 0
IsSettled links rows = (a b y : ℕ) → Linked links a b → Holds rows a y → Holds rows b y
