-- The terminals with which strings begin.
use Rattle.std.specs.Prelude.{◌≡◌, ℕ, ◌<◌, Bool, List, [], ◌∷◌, Some, slice_get, take, All}
use Rattle.sg_grammar.specs.declared.grammar.Production.{Production}
use Rattle.sg_grammar.specs.Grammar.{Grammar}
use Rattle.sg_sets.specs.Members.{Has}
use Rattle.sg_lalr.specs.Least.{Grown}

-- what a symbol derives can begin with u
pub data First (g : Grammar) : ℕ → ℕ → Type 0 where
  itself : (X : ℕ) → X < g.terminals → First g X X
  within : (q d X Y u : ℕ) (r : Production) → slice_get g.rules q ≡ Some r → X ≡ r.left
      → Grown g.rules 0 (take d r.right) → slice_get r.right d ≡ Some Y → First g Y u → First g X u

-- what a string derives can begin with u
abbrev pub Firsts : Grammar → List ℕ → ℕ → Type 0
Firsts g Xs u = (d : ℕ) × (Y : ℕ) × Grown g.rules 0 (take d Xs) × (slice_get Xs d ≡ Some Y) × First g Y u

-- the symbol stands in the string behind symbols of the set alone
abbrev pub StandsBehind : List Bool → List ℕ → ℕ → Type 0
StandsBehind set Xs Y = (d : ℕ) × All (Has set) (take d Xs) × (slice_get Xs d ≡ Some Y)

-- the same among the first n symbols
abbrev pub StandsBelow : List Bool → List ℕ → ℕ → ℕ → Type 0
StandsBelow set Xs n Y = (d : ℕ) × (d < n) × All (Has set) (take d Xs) × (slice_get Xs d ≡ Some Y)

abbrev pub IsNullable : Grammar → List Bool → Type 0
IsNullable g set = (X : ℕ) → (Has set X → Grown g.rules 0 (X ∷ [])) × (Grown g.rules 0 (X ∷ []) → Has set X)
