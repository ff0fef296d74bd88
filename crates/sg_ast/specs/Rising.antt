-- The places that trees keep, in the order of their spelling.
use Rattle.std.specs.Prelude.{ℕ, ◌+◌, ◌≤◌, List, [], ◌∷◌, ⊤}
use Rattle.sg_kinds.specs.declared.fault.Position.{Position}
use Rattle.sg_ast.specs.Declarations.{Decl}
use Rattle.sg_ast.specs.Spelling.{Piece, Free, Kept, spell}

-- the places that are kept of these tokens
abbrev pub kept_places : List Piece → List Position
kept_places [] = []
kept_places (Free l ∷ ps) = kept_places ps
kept_places (Kept l place ∷ ps) = place ∷ kept_places ps

-- the places that the tree of a declaration keeps
abbrev pub places_of : Decl → List Position
places_of d = kept_places (spell d)

-- each place is this token's or a later one's, and behind the places before it
abbrev pub RiseFrom : ℕ → List Position → Type 0
RiseFrom token [] = ⊤
RiseFrom token (p ∷ ps) = (token ≤ p.token) × RiseFrom (p.token + 1) ps

-- some of a list, in its order
pub data SomeOf {A : Type 0} : List A → List A → Type 0 where
  nothing : {ys : List A} → SomeOf [] ys
  passed : {y : A} {xs ys : List A} → SomeOf xs ys → SomeOf xs (y ∷ ys)
  taken : {y : A} {xs ys : List A} → SomeOf xs ys → SomeOf (y ∷ xs) (y ∷ ys)
