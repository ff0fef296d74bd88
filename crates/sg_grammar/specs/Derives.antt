-- What strings of symbols derive.
use Rattle.std.specs.Prelude.{◌≡◌, ℕ, zero, suc, ◌+◌, ◌<◌, List, [], ◌∷◌, ◌++◌, Some, slice_get}
use Rattle.sg_grammar.specs.Grammar.{Grammar, Production}

-- a terminal with its text
pub record Token : Type 0 where
  pub terminal : ℕ
  pub text : List ℕ

-- the result of a token, and that of a production on the results of its right side
pub record Algebra (A : Type 0) : Type 0 where
  pub leaf : Token → A
  pub node : ℕ → List A → A

-- a string derives these tokens with these results, one for each symbol, in so many nodes: tokens and productions
pub data Derives {A : Type 0} (g : Grammar) (alg : Algebra A) : List ℕ → List Token → List A → ℕ → Type 0 where
  nothing : Derives g alg [] [] [] zero
  token : (x : Token) (X : ℕ) (Xs : List ℕ) (ts : List Token) (vs : List A) (n : ℕ) → X < g.terminals → X ≡ x.terminal
      → Derives g alg Xs ts vs n
      → Derives g alg (X ∷ Xs) (x ∷ ts) (alg.leaf x ∷ vs) (suc n)
  under : (p : ℕ) (r : Production) (X : ℕ) (Xs : List ℕ) (us ts all : List Token) (ws vs : List A) (m n k : ℕ)
      → slice_get g.rules p ≡ Some r → X ≡ r.left
      → Derives g alg r.right us ws m → Derives g alg Xs ts vs n → all ≡ us ++ ts → k ≡ m + n
      → Derives g alg (X ∷ Xs) all (alg.node p ws ∷ vs) (suc k)

-- results that say nothing
abbrev pub plain : Algebra (Unit {0})
plain = record { leaf = λ x. tt; node = λ p vs. tt }

-- a symbol derives some tokens
abbrev pub IsProductive : Grammar → ℕ → Type 0
IsProductive g X = (ts : List Token) × (vs : List (Unit {0})) × (n : ℕ) × Derives g plain (X ∷ []) ts vs n

abbrev pub AllProductive : Grammar → Type 0
AllProductive g = (X : ℕ) → X < g.symbols → IsProductive g X

-- the first symbol that derives no tokens
pub record IsFirstUnproductive (g : Grammar) (X : ℕ) : Type 0 where
  pub within : X < g.symbols
  pub derives_none : IsProductive g X → ⊥
  pub first : (Y : ℕ) → Y < X → IsProductive g Y
