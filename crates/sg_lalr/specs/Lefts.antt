-- The productions of each symbol, and the symbols with which they begin.
use Rattle.std.specs.Prelude.{◌≡◌, ◌↔◌, ℕ, [], List, Some, slice_get, slice_index_or, Contains}
use Rattle.sg_grammar.specs.declared.grammar.Production.{Production}
use Rattle.sg_lalr.specs.Closure.{HasLeft}

-- each symbol's row has the productions of which it is the left side
abbrev pub AreLefts : List Production → List (List ℕ) → Type 0
AreLefts rules lefts = (X q : ℕ) → Contains (slice_index_or lefts X []) q ↔ HasLeft rules X q

-- the right side of a production of X begins with Y
abbrev pub HasHead : List Production → ℕ → ℕ → Type 0
HasHead rules X Y = (r : Production) × Contains rules r × (X ≡ r.left) × (slice_get r.right 0 ≡ Some Y)

-- each symbol's row has the symbols with which its productions begin
abbrev pub AreHeads : List Production → List (List ℕ) → Type 0
AreHeads rules heads = (X Y : ℕ) → Contains (slice_index_or heads X []) Y ↔ HasHead rules X Y
