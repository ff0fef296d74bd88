-- The page of marks: its cells, lines and positions, the regions of nodes and the owners of cells.
use Rattle.std.specs.Prelude.{ℕ, suc, ◌+◌, ◌-◌, Bool, not, ◌&&◌, ◌==◌, nat_lt, min, bytes_eq, if◌then◌else◌, List, [], ◌∷◌, length, map, take, reverse, find, slice_get, Option, option_map, option_and_then}
use Rattle.std.specs.List.{slice_split, take_while, count_by, range_with_len}
use Rattle.sg_kinds.specs.Values.{Bytes}
use Rattle.sg_kinds.specs.Places.{Place}
use Rattle.sg_unparse.specs.Cells.{Mark, Writes, Closed}

-- a byte with the place of the node that owns it
abbrev pub Cell : Type 0
Cell = ℕ × Place

abbrev pub all_cells : List Mark → List Cell
all_cells [] = []
all_cells (Writes b u ∷ marks) = (b, u) ∷ all_cells marks
all_cells (Closed u n ∷ marks) = all_cells marks

-- the page is the first 1,048,576 cells; it is cut where there are more
abbrev pub cells_of : List Mark → List Cell
cells_of marks = take 1048576 (all_cells marks)

abbrev pub is_cut : List Mark → Bool
is_cut marks = nat_lt 1048576 (length (all_cells marks))

-- cells, whatever tells their owners
module _ {N : Type 0} where
  abbrev pub bytes_of : List (ℕ × N) → Bytes
  bytes_of cells = map (λ c. c.0) cells

abbrev pub is_newline : ℕ → Bool
is_newline b = b == 10

-- where the cell of a number stands: its line is 1 plus the newlines before it, its column 1 plus the cells since the
-- last one
pub record Position : Type 0 where
  pub line : ℕ
  pub column : ℕ

module _ {N : Type 0} where
  -- one line more than there are newlines
  abbrev pub lines_of : List (ℕ × N) → List Bytes
  lines_of cells = slice_split is_newline (bytes_of cells)

  abbrev pub position_at : List (ℕ × N) → ℕ → Position
  position_at cells k =
      let before = take k (bytes_of cells) in
      record { line = 1 + count_by is_newline before; column = 1 + length (take_while (λ b. not (is_newline b)) (reverse before)) }

  -- the position that the next cell would have
  abbrev pub position_behind : List (ℕ × N) → Position
  position_behind cells = position_at cells (length cells)

-- from which cell on and up to which a node was written
pub record Span : Type 0 where
  pub node : Place
  pub from : ℕ
  pub to : ℕ

abbrev pub spans_behind : ℕ → List Mark → List Span
spans_behind n [] = []
spans_behind n (Writes b u ∷ marks) = spans_behind (suc n) marks
spans_behind n (Closed u count ∷ marks) = record { node = u; from = n - count; to = n } ∷ spans_behind n marks

abbrev pub span_of : List Mark → Place → Option Span
span_of marks u = find (λ s. bytes_eq s.node u) (spans_behind 0 marks)

-- the positions of the first and of the last cell of a node; where it has none, both are that of the next cell
pub record Region : Type 0 where
  pub first : Position
  pub last : Position

abbrev pub region_in : {N : Type 0} → List (ℕ × N) → ℕ → ℕ → Region
region_in cells from to =
    record { first = position_at cells from; last = position_at cells (if nat_lt from to then to - 1 else from) }

abbrev pub region_of : List Mark → Place → Option Region
region_of marks u =
    let cells = cells_of marks in
    option_map (λ s. region_in cells (min s.from (length cells)) (min s.to (length cells))) (span_of marks u)

-- the owner of the cell at a line and a column
module _ {N : Type 0} where
  abbrev pub stands_at : List (ℕ × N) → ℕ → ℕ → ℕ → Bool
  stands_at cells line column k =
      let p = position_at cells k in nat_lt k (length cells) && p.line == line && p.column == column

  abbrev pub owner_at : List (ℕ × N) → ℕ → ℕ → Option N
  owner_at cells line column =
      option_map (λ c. c.1) (option_and_then (slice_get cells) (find (stands_at cells line column) (range_with_len 0 (length cells))))
