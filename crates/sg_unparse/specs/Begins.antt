-- Where nodes begin, by the newlines and the cells before them, and how a node that begins at or below another is found
-- again where something changed below that one.
use Rattle.std.specs.Prelude.{◌≡◌, ◌⊎◌, ℕ, ◌+◌, ◌-◌, ◌*◌, ◌≤◌, ◌==◌, bytes_eq, List, take, find, Option, Some, None, option_map}
use Rattle.std.specs.List.{AllByRecursion, count_by}
use Rattle.sg_kinds.specs.Values.{Bytes, Value}
use Rattle.sg_kinds.specs.Terms.{Term, nodes_of}
use Rattle.sg_kinds.specs.Places.{Place}
use Rattle.sg_kinds.specs.Nets.{Reference}
use Rattle.sg_kinds.specs.declared.spec.Spec.{Spec}
use Rattle.sg_forest.specs.declared.node_id.NodeId.{NodeId}
use Rattle.sg_groves.specs.Evaluated.{IsAtOrBelow}
use Rattle.sg_unparse.specs.Cells.{Mark}
use Rattle.sg_unparse.specs.Page.{all_cells, bytes_of, is_newline, span_of}
use Rattle.sg_unparse.specs.Sheet.{Sheet, is_of}
use Rattle.sg_unparse.specs.Owned.{place_of_mark}
use Rattle.sg_unparse.specs.Margins.{ons_of}
use Rattle.sg_unparse.specs.declared.page.Beginning.{Beginning}
use Rattle.sg_unparse.specs.declared.page.Span.{Span}

-- the newlines and the cells before a cell
abbrev pub begins_at : {N : Type 0} → List (ℕ × N) → ℕ → Beginning
begins_at cells k = record { newlines = count_by is_newline (take k (bytes_of cells)); cells = k }

-- of a place among marks, however many there are, and of a node on a page
abbrev pub begins_in : List Mark → Place → Option Beginning
begins_in marks v = option_map (λ s. begins_at (all_cells marks) s.from) (span_of marks v)

abbrev pub begins_on : Sheet → NodeId → Option Beginning
begins_on p n = option_map (λ (s : Span). begins_at p.cells s.from) (find (is_of n) p.spans)

-- a node stands at a place, and none of the others that own marks does
abbrev pub StandsAlone : (Place → NodeId) → NodeId → Place → List Mark → Type 0
StandsAlone at n v marks = AllByRecursion (λ m. ((at (place_of_mark m)).key == n.key) ≡ bytes_eq (place_of_mark m) v) marks

-- nothing is typed in the place of any node
abbrev pub none_typed : Place → Option Bytes
none_typed u = None

-- values that differ only strictly below a place
abbrev pub AreAlikeOutside : Place → (value other : Reference Place → Value) → Type 0
AreAlikeOutside p value other = (a : Reference Place) → ((a.node ≡ p) ⊎ (IsAtOrBelow a.node p → ⊥)) → value a ≡ other a

-- the margin from which a node of a term begins, where that of the root is 0, is at most this
abbrev pub margin_bound : Spec → Term → ℕ
margin_bound spec t = 2 * ons_of spec * nodes_of t

-- where a place begins now among new marks: from where another began among old ones, and from where the two begin in
-- what one node writes alone from margin 0, the old one before and the new one after; the node itself is written from a
-- margin of at most m
pub record IsMoved (marks : List Mark) (v : Place) (old from to : Beginning) (m : ℕ) : Type 0 where
  pub now : Beginning
  pub begins : begins_in marks v ≡ Some now
  pub within : from.newlines ≤ old.newlines
  pub newlines : now.newlines ≡ (old.newlines - from.newlines) + to.newlines
  pub cells : now.cells ≤ old.cells + to.cells + to.newlines * m
