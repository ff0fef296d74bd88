-- Paths of a relation, and links between rows.
use Rattle.std.specs.Prelude.{◌≡◌, ℕ, ◌⊎◌, List, [], ◌∷◌, Contains}

module _ (R : ℕ → ℕ → Type 0) where
  -- a is related to the first number, each to the next, and the last to b
  abbrev pub Leads : ℕ → List ℕ → ℕ → Type 0
  Leads a [] b = R a b
  Leads a (v ∷ via) b = R a v × Leads v via b

  -- some steps lead from a to b, one at least
  abbrev pub Path : ℕ → ℕ → Type 0
  Path a b = (via : List ℕ) × Leads a via b

  -- a is b, or leads to it
  abbrev pub Reaches : ℕ → ℕ → Type 0
  Reaches a b = (a ≡ b) ⊎ Path a b

  abbrev pub IsTransitive : Type 0
  IsTransitive = (a b c : ℕ) → R a b → R b c → R a c

-- one of the links goes from a to b
abbrev pub Linked : List (ℕ × ℕ) → ℕ → ℕ → Type 0
Linked links a b = Contains links (a, b)
