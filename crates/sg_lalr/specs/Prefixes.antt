-- The order of prefixes, and more of them than there may be states. The symbols of a prefix stand from the last to
-- the first.
use Rattle.std.specs.Prelude.{◌≡◌, ℕ, ◌<◌, ◌⊎◌, ⊤, List, [], ◌∷◌, length, All, AllPairs}
use Rattle.sg_grammar.specs.Grammar.{Grammar}
use Rattle.sg_lalr.specs.ValidItems.{Viable, SameCore}

-- a prefix is less than another: it is shorter, or as long and has the lesser symbol where they differ first
abbrev pub Less : List ℕ → List ℕ → Type 0
Less [] [] = ⊥
Less [] (Y ∷ v) = ⊤
Less (X ∷ u) [] = ⊥
Less (X ∷ u) (Y ∷ v) = Less u v ⊎ ((u ≡ v) × (X < Y))

-- there are more than 65,536 cores: prefixes of which no two have the same
pub record TooMany (g : Grammar) : Type 0 where
  pub prefixes : List (List ℕ)
  pub many : length prefixes ≡ 65537
  pub viable : All (Viable g) prefixes
  pub different : AllPairs (λ (w h : List ℕ). SameCore g w h → ⊥) prefixes
