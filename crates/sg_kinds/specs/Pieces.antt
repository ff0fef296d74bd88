-- A scheme's string as pieces.
use Rattle.std.specs.Prelude.{ℕ, ◌+◌, ◌-◌, cond, List, [], ◌∷◌, ◌++◌, nat_eq, nat_le, Option, Some, None, option_map}
use Rattle.sg_kinds.specs.Specification.{Bytes, Piece}
use Rattle.sg_kinds.specs.declared.spec.Piece.TheVariants.{Written, Newline, Margin}

-- two steps of the margin as one: a step takes 2 away so many times, but never goes below 0, and then adds 2 so many
-- times
abbrev pub then_step : ℕ → ℕ → ℕ → ℕ → Piece
then_step back on back_too on_too = cond (nat_le back_too on) (Margin back ((on - back_too) + on_too))
    (Margin (back + (back_too - on)) on_too)

-- a piece before pieces: bytes join to bytes, steps to steps
abbrev pub joined : Piece → List Piece → List Piece
joined (Written s) (Written t ∷ rest) = Written (s ++ t) ∷ rest
joined (Margin back on) (Margin back_too on_too ∷ rest) = then_step back on back_too on_too ∷ rest
joined piece rest = piece ∷ rest

-- what `%` and a byte write
abbrev pub escape : ℕ → Option Piece
escape b = cond (nat_eq b 110) (Some Newline) (cond (nat_eq b 116) (Some (Margin 0 1))
    (cond (nat_eq b 98) (Some (Margin 1 0)) (cond (nat_eq b 37) (Some (Written (37 ∷ []))) None)))

-- the pieces of a string, none where a `%` stands before another byte than `n`, `t`, `b`, `%`
abbrev pub before_pieces : Option Piece → Option (List Piece) → Option (List Piece)
before_pieces None rest = None
before_pieces (Some piece) rest = option_map (joined piece) rest

abbrev pub pieces_of : Bytes → Option (List Piece)
pieces_of [] = Some []
pieces_of (b ∷ []) = cond (nat_eq b 37) None (Some (Written (b ∷ []) ∷ []))
pieces_of (b ∷ c ∷ rest) = cond (nat_eq b 37) (before_pieces (escape c) (pieces_of rest))
    (option_map (joined (Written (b ∷ []))) (pieces_of (c ∷ rest)))
