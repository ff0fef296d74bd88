-- The strings of symbols that a least set has: it has the symbols below a bound, and each left side whose right side
-- it has.
use Rattle.std.specs.Prelude.{◌≡◌, ℕ, ◌<◌, Bool, List, [], ◌∷◌, Some, slice_get, All}
use Rattle.sg_grammar.specs.declared.grammar.Production.{Production}
use Rattle.sg_sets.specs.Members.{Has}

pub data Grown (rules : List Production) (low : ℕ) : List ℕ → Type 0 where
  nothing : Grown rules low []
  passes : (X : ℕ) (Xs : List ℕ) → X < low → Grown rules low Xs → Grown rules low (X ∷ Xs)
  under : (q : ℕ) (r : Production) (X : ℕ) (Xs : List ℕ) → slice_get rules q ≡ Some r → X ≡ r.left
      → Grown rules low r.right → Grown rules low Xs → Grown rules low (X ∷ Xs)

-- each symbol of the set is one of the least set
abbrev pub HasOnly : List Production → ℕ → List Bool → Type 0
HasOnly rules low set = (X : ℕ) → Has set X → Grown rules low (X ∷ [])

-- the set has the left side of each right side that it has
abbrev pub IsClosed : List Bool → List Production → Type 0
IsClosed set rules = All (λ (r : Production). All (Has set) r.right → Has set r.left) rules
