-- The escapes of a string, read byte by byte.
use Rattle.std.proofs.Common.{◌≡◌, Bool, true, false, not, ◌&&◌, cond, ℕ, List, [], ◌∷◌, nat_eq, Option, Some, None, is_some, option_map, refl, ap, ◌∙◌}
use Rattle.sg_kinds.specs.declared.spec.Piece.{Piece}
use Rattle.sg_kinds.specs.declared.spec.Piece.TheVariants.{Written}
use Rattle.sg_kinds.specs.Pieces.{escape, joined, before_pieces, pieces_of}

-- the rest of a string is escaped, where a `%` stands before it or not
abbrev pub escaped : Bool → List ℕ → Bool
escaped percent [] = not percent
escaped true (b ∷ rest) = is_some (escape b) && escaped false rest
escaped false (b ∷ rest) = escaped (nat_eq b 37) rest

some_map : (f : List Piece → List Piece) (o : Option (List Piece)) → is_some (option_map f o) ≡ is_some o
some_map f None = refl
some_map f (Some x) = refl

some_before : (o : Option Piece) (rest : Option (List Piece)) → is_some (before_pieces o rest) ≡ (is_some o && is_some rest)
some_before None rest = refl
some_before (Some piece) rest = some_map (joined piece) rest

pub is_escaped : (text : List ℕ) → is_some (pieces_of text) ≡ escaped false text
is_escaped [] = refl
is_escaped (b ∷ []) = by (nat_eq b 37)
  where
    by : (p : Bool) → is_some (cond p None (Some (Written (b ∷ []) ∷ []))) ≡ not p
    by true = refl
    by false = refl
is_escaped (b ∷ (c ∷ rest)) = by (nat_eq b 37) (is_escaped rest) (is_escaped (c ∷ rest))
  where
    by : (p : Bool) → is_some (pieces_of rest) ≡ escaped false rest → is_some (pieces_of (c ∷ rest)) ≡ escaped false (c ∷ rest)
        → is_some (cond p (before_pieces (escape c) (pieces_of rest)) (option_map (joined (Written (b ∷ []))) (pieces_of (c ∷ rest)))) ≡ escaped p (c ∷ rest)
    by true e f = some_before (escape c) (pieces_of rest) ∙ ap (λ t. is_some (escape c) && t) e
    by false e f = some_map (joined (Written (b ∷ []))) (pieces_of (c ∷ rest)) ∙ f
