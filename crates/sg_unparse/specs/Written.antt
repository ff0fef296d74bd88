-- The page of marks by the nodes at their places, and what a writer holds of marks.
use Rattle.std.specs.Prelude.{◌≡◌, ℕ, ◌-◌, min, ◌⊎◌, List, [], ◌∷◌, ◌++◌, length, map, slice_get, Some, replicate}
use Rattle.sg_kinds.specs.Places.{Place}
use Rattle.sg_forest.specs.declared.node_id.NodeId.{NodeId}
use Rattle.sg_unparse.specs.Cells.{Mark, Writing, as_they_are}
use Rattle.sg_unparse.specs.Page.{Cell, Span as SpanOf, cells_of, is_cut, spans_behind}
use Rattle.sg_unparse.specs.Sheet.{Sheet, IsWritten, kept_cells}
use Rattle.sg_unparse.specs.declared.page.Span.{Span}
use Rattle.sg_unparse.specs.declared.page.Run.{Run}
use Rattle.sg_unparse.specs.declared.writer.Writer.{Writer}

-- as many blanks as the margin
abbrev pub blanks_of : Place → Writing
blanks_of u m = as_they_are u (replicate m 32) m

-- where a function tells the node at each place
module _ (at : Place → NodeId) where
  abbrev pub by_node : Cell → ℕ × NodeId
  by_node c = (c.0, at c.1)

  abbrev pub on_page : ℕ → SpanOf → Span
  on_page cells s = record { node = at s.node; from = min s.from cells; to = min s.to cells }

  abbrev pub sheet_of : List Mark → Sheet
  sheet_of marks =
      let cells = cells_of marks in
      record { cells = map by_node cells; spans = map (on_page (length cells)) (spans_behind 0 marks); more = is_cut marks }

  -- a writer has written marks, and the margin behind them is m
  pub record HoldsMarks (w : Writer) (marks : List Mark) (m : ℕ) : Type 0 where
    pub kept : IsWritten w.text.items w.runs.items w.spans.items
    pub cells : kept_cells w.text.items w.runs.items ≡ map by_node (cells_of marks)
    pub spans : w.spans.items ≡ map (on_page 1048576) (spans_behind 0 marks)
    pub more : w.more ≡ is_cut marks
    pub margin : w.margin ≡ m

  -- whatever was written before, what is to be written stands behind it
  pub record Wrote (old new : Writer) (f : Writing) : Type 0 where
    pub behind : (marks : List Mark) (m : ℕ) → HoldsMarks old marks m → HoldsMarks new (marks ++ (f m).0) (f m).1

-- the last of runs is of a node
pub record IsLastOf (runs : List Run) (owner : NodeId) : Type 0 where
  pub run : Run
  pub there : slice_get runs (length runs - 1) ≡ Some run
  pub is : run.owner ≡ owner

-- a node owns the cells from one on: it is the last run's, or a run begins there
abbrev pub Owns : List Run → List Run → ℕ → NodeId → Type 0
Owns old new from owner = (IsLastOf old owner × (new ≡ old)) ⊎ (new ≡ old ++ record { from = from; owner = owner } ∷ [])
