-- A page by the numbers of nodes, and how it is kept.
use Rattle.std.specs.Prelude.{◌≡◌, ℕ, zero, suc, ◌≤◌, ◌==◌, Bool, nat_lt, if◌then◌else◌, List, [], ◌∷◌, length, find, slice_get, Option, None, option_map, MatchOption}
use Rattle.std.specs.List.{All}
use Rattle.std.specs.List.Sorted.{IsNonDecreasingBy}
use Rattle.sg_kinds.specs.Values.{Bytes}
use Rattle.sg_forest.specs.declared.node_id.NodeId.{NodeId}
use Rattle.sg_unparse.specs.Page.{Region as RegionOf, lines_of, is_newline, region_in}
use Rattle.sg_unparse.specs.declared.page.Span.{Span}
use Rattle.sg_unparse.specs.declared.page.Run.{Run}
use Rattle.sg_unparse.specs.declared.page.Region.{Region}

-- its cells with the nodes that own them, the spans of nodes, both ends within the cells, and whether cells were left off
pub record Sheet : Type 0 where
  pub cells : List (ℕ × NodeId)
  pub spans : List Span
  pub more : Bool

-- a line, counted from 1
abbrev pub line_on : Sheet → ℕ → Option Bytes
line_on p zero = None
line_on p (suc k) = slice_get (lines_of p.cells) k

-- the region of a node
abbrev pub is_of : NodeId → Span → Bool
is_of n s = s.node.key == n.key

abbrev pub region_on : Sheet → NodeId → Option RegionOf
region_on p n = option_map (λ (s : Span). region_in p.cells s.from s.to) (find (is_of n) p.spans)

-- what a region of the code tells
abbrev pub as_region : Region → RegionOf
as_region r = record { first = record { line = r.line; column = r.col }; last = record { line = r.end_line; column = r.end_col } }

-- where lines begin, but the first: behind each newline, where the first of the bytes has a number
abbrev pub starts_from : ℕ → Bytes → List ℕ
starts_from n [] = []
starts_from n (b ∷ s) = if is_newline b then suc n ∷ starts_from (suc n) s else starts_from (suc n) s

-- the owner of a cell: that of the last run that begins at the cell or before it, if that is not behind one that begins later
abbrev pub owner_in : NodeId → List Run → ℕ → NodeId
owner_in n [] k = n
owner_in n (r ∷ rs) k = if nat_lt k r.from then n else owner_in r.owner rs k

-- bytes with their owners, where the first has a number
abbrev pub cells_from : ℕ → (ℕ → NodeId) → Bytes → List (ℕ × NodeId)
cells_from n f [] = []
cells_from n f (b ∷ s) = (b, f n) ∷ cells_from (suc n) f s

-- what stands for no node where there is no run
abbrev pub no_node : NodeId
no_node = record { key = 0 }

abbrev pub kept_cells : Bytes → List Run → List (ℕ × NodeId)
kept_cells text runs = cells_from 0 (owner_in no_node runs) text

-- what is written of a page agrees: runs begin in order and the first with the first cell, and spans end within the
-- cells
pub record IsWritten (text : Bytes) (runs : List Run) (spans : List Span) : Type 0 where
  pub small : length text ≤ 1048576
  pub begins : MatchOption (slice_get runs 0) (text ≡ []) (λ (r : Run). r.from ≡ 0)
  pub rising : IsNonDecreasingBy (λ (r : Run). r.from) runs
  pub within : All (λ (r : Run). r.from ≤ length text) runs
  pub ends : All (λ (s : Span). (s.from ≤ s.to) × (s.to ≤ length text)) spans

-- the parts of a page agree, and its lines begin behind newlines
pub record IsKept (text : Bytes) (runs : List Run) (starts : List ℕ) (spans : List Span) : Type 0 where
  pub written : IsWritten text runs spans
  pub lines : starts ≡ starts_from 0 text
