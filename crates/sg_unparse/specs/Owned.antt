-- To which nodes marks belong.
use Rattle.std.specs.Prelude.{◌≡◌, ◌-◌, ◌≤◌, if◌then◌else◌, List, [], ◌∷◌, length, take, drop, Option}
use Rattle.std.specs.List.{AllByRecursion}
use Rattle.sg_kinds.specs.Values.{Bytes}
use Rattle.sg_kinds.specs.Places.{Place}
use Rattle.sg_groves.specs.Evaluated.{IsAtOrBelow, is_at_or_below}
use Rattle.sg_unparse.specs.Cells.{Mark, Writes, Closed}
use Rattle.sg_unparse.specs.Page.{Cell, Span}

-- the node that owns a cell, or that ends
abbrev pub place_of_mark : Mark → Place
place_of_mark (Writes b u) = u
place_of_mark (Closed u n) = u

-- all belong to nodes at a place or below it
abbrev pub AreOwned : Place → List Mark → Type 0
AreOwned u marks = AllByRecursion (λ x. IsAtOrBelow (place_of_mark x) u) marks

-- what is written before a node and the nodes below it
abbrev pub before : Place → List Mark → List Mark
before v [] = []
before v (x ∷ marks) = if is_at_or_below (place_of_mark x) v then [] else x ∷ before v marks

-- the same is typed at all other places
abbrev pub AreTypedAlike : Place → (Place → Option Bytes) → (Place → Option Bytes) → Type 0
AreTypedAlike v typed others = (u : Place) → (IsAtOrBelow u v → ⊥) → typed u ≡ others u

-- the cells from the span's first up to its last belong to the node or to nodes below it, and no other cell does
pub record IsSpanOf (v : Place) (cells : List Cell) (s : Span) : Type 0 where
  pub in_order : s.from ≤ s.to
  pub there : s.to ≤ length cells
  pub before : AllByRecursion (λ c. IsAtOrBelow c.1 v → ⊥) (take s.from cells)
  pub inside : AllByRecursion (λ c. IsAtOrBelow c.1 v) (take (s.to - s.from) (drop s.from cells))
  pub behind : AllByRecursion (λ c. IsAtOrBelow c.1 v → ⊥) (drop s.to cells)
