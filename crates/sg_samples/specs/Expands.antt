-- What strings of symbols become where nonterminals become right sides of their productions.
use Rattle.std.specs.Prelude.{◌≡◌, ℕ, ◌<◌, List, [], ◌∷◌, ◌++◌, Some, slice_get, All}
use Rattle.sg_grammar.specs.Grammar.{Grammar}
use Rattle.sg_grammar.specs.declared.grammar.Production.{Production}

-- each symbol stays, or becomes what the right side of one of its productions becomes
pub data Expands (g : Grammar) : List ℕ → List ℕ → Type 0 where
  nothing : Expands g [] []
  stays : (X : ℕ) (Xs Ys : List ℕ) → Expands g Xs Ys → Expands g (X ∷ Xs) (X ∷ Ys)
  under : (p : ℕ) (r : Production) (X : ℕ) (Xs Us Ys all : List ℕ) → slice_get g.rules p ≡ Some r → X ≡ r.left
      → Expands g r.right Us → Expands g Xs Ys → all ≡ Us ++ Ys
      → Expands g (X ∷ Xs) all

-- symbols that are terminals, each of them
abbrev pub AreTerminals : Grammar → List ℕ → Type 0
AreTerminals g Xs = All (λ X. X < g.terminals) Xs
