-- The pieces of a string so far, and what is read of it already.
use Rattle.std.specs.Prelude.{◌≡◌, ℕ, false, cond, List, ◌∷◌, ◌++◌, Option, Some, None, option_map}
use Rattle.sg_kinds.specs.Values.{Bytes}
use Rattle.sg_kinds.specs.Pieces.{joined, pieces_of}
use Rattle.sg_kinds.specs.declared.spec.Piece.{Piece}
use Rattle.sg_kinds.specs.declared.spec.Piece.TheVariants as piece
use Rattle.sg_views.specs.declared.pieces.Last.{Last}
use Rattle.sg_views.specs.declared.pieces.Last.TheVariants.{Nothing, Written, Margin}
use Rattle.sg_views.specs.declared.pieces.Writing.{Writing}

-- the last piece before others, which may still join it
abbrev pub before : Last → List Piece → List Piece
before Nothing rest = rest
before (Written bytes) rest = joined (piece.Written bytes.items) rest
before (Margin back on) rest = joined (piece.Margin back on) rest

abbrev pub told : Writing → List Piece → List Piece
told w rest = w.pieces.items ++ before w.last rest

-- a piece more
pub record Joins (w : Writing) (p : Piece) (v : Writing) : Type 0 where
  pub pieces : (rest : List Piece) → told v rest ≡ told w (joined p rest)
  pub closed : v.percent ≡ false

-- the pieces of the whole, where this is still to be read
abbrev pub meant : Writing → Bytes → Option (List Piece)
meant w rest = option_map (told w) (pieces_of (cond w.percent (37 ∷ rest) rest))

-- a byte more: what it makes, or nothing where the whole has no pieces
abbrev pub Steps : Writing → ℕ → Option Writing → Type 0
Steps w b None = (rest : Bytes) → meant w (b ∷ rest) ≡ None
Steps w b (Some v) = (rest : Bytes) → meant v rest ≡ meant w (b ∷ rest)
