-- Samples of strings, and the symbols that have none.
use Rattle.std.specs.Prelude.{ℕ, ◌<◌, ◌≤◌, ◌⊎◌, max, List, length, All, AllPairs, Contains}
use Rattle.sg_grammar.specs.Grammar.{Grammar}
use Rattle.sg_grammar.specs.Derives.{Token, Derives, IsProductive, plain}
use Rattle.sg_samples.specs.Expands.{Expands, AreTerminals}
use Rattle.sg_samples.specs.declared.table.TheConstants.{MOST}

-- a string derives these tokens
abbrev pub DerivesTokens : Grammar → List ℕ → List Token → Type 0
DerivesTokens g Xs ts = (vs : List (Unit {0})) × (n : ℕ) × Derives g plain Xs ts vs n

-- What a string becomes. It is no longer than `MOST` symbols, where the string is not. It is of terminals alone where
-- the string derives at most `MOST` tokens, and where it is, none that the string derives is shorter.
pub record IsSample (g : Grammar) (Xs Ys : List ℕ) : Type 0 where
  pub expands : Expands g Xs Ys
  pub few : length Ys ≤ max MOST (length Xs)
  pub whole : (ts : List Token) → DerivesTokens g Xs ts → length ts ≤ MOST → AreTerminals g Ys
  pub shortest : AreTerminals g Ys → (ts : List Token) → DerivesTokens g Xs ts → length Ys ≤ length ts

-- all symbols that derive no tokens, in their order
pub record AreBarren (g : Grammar) (Xs : List ℕ) : Type 0 where
  pub rising : AllPairs (λ X Y. X < Y) Xs
  pub derive_none : All (λ X. (X < g.symbols) × (IsProductive g X → ⊥)) Xs
  pub others : (X : ℕ) → X < g.symbols → Contains Xs X ⊎ IsProductive g X
