-- By how much the schemes of a specification widen the margin at most.
use Rattle.std.specs.Prelude.{ℕ, List}
use Rattle.std.specs.List.{sum_by}
use Rattle.sg_kinds.specs.declared.spec.Spec.{Spec}
use Rattle.sg_kinds.specs.declared.spec.Operator.{Operator}
use Rattle.sg_kinds.specs.declared.spec.Scheme.{Scheme}
use Rattle.sg_kinds.specs.declared.spec.Piece.{Piece}
use Rattle.sg_kinds.specs.declared.spec.Piece.TheVariants.{Written, Newline, Margin}
use Rattle.sg_kinds.specs.declared.spec.Item.{Item}
use Rattle.sg_kinds.specs.declared.spec.Item.TheVariants.{Writes as WritesPieces, Child, Shows, Separates}

-- how often 2 is added to the margin
abbrev pub ons_of_piece : Piece → ℕ
ons_of_piece (Written s) = 0
ons_of_piece Newline = 0
ons_of_piece (Margin back on) = on

abbrev pub ons_of_pieces : List Piece → ℕ
ons_of_pieces ps = sum_by ons_of_piece ps

abbrev pub ons_of_item : Item → ℕ
ons_of_item (WritesPieces ps) = ons_of_pieces ps
ons_of_item (Child place) = 0
ons_of_item (Shows o) = 0
ons_of_item (Separates ps) = ons_of_pieces ps

abbrev pub ons_of_items : List Item → ℕ
ons_of_items is = sum_by ons_of_item is

abbrev pub ons_of_schemes : List Scheme → ℕ
ons_of_schemes ss = sum_by (λ (s : Scheme). ons_of_items s.items) ss

abbrev pub ons_of_operators : List Operator → ℕ
ons_of_operators os = sum_by (λ (o : Operator). ons_of_schemes o.schemes) os

-- in all schemes of all operators
abbrev pub ons_of : Spec → ℕ
ons_of spec = ons_of_operators spec.ops
