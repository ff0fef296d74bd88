-- Sentences of a nonterminal, and where tokens fail to be one.
use Rattle.std.specs.Prelude.{◌≡◌, ℕ, suc, ◌<◌, ◌≤◌, List, [], ◌∷◌, ◌++◌, All, Some, length, slice_get, take}
use Rattle.sg_grammar.specs.declared.grammar.Production.{Production}
use Rattle.sg_grammar.specs.Grammar.{Grammar}
use Rattle.sg_grammar.specs.Derives.{Token, Derives, plain}

-- the entry's start production is its marker and then the nonterminal
abbrev pub IsEntry : Grammar → ℕ → ℕ → Type 0
IsEntry g k N = (r : Production) × (slice_get g.entries k ≡ Some r) × (r.right ≡ suc k ∷ N ∷ [])

-- the terminals are in range, and none is the end
abbrev pub AreTokens : Grammar → List Token → Type 0
AreTokens g ts = All (λ (x : Token). (0 < x.terminal) × (x.terminal < g.terminals)) ts

-- the nonterminal derives the tokens
abbrev pub IsSentenceOf : Grammar → ℕ → List Token → Type 0
IsSentenceOf g N ts = (vs : List (Unit {0})) × (n : ℕ) × Derives g plain (N ∷ []) ts vs n

-- the nonterminal derives the tokens and some behind them
abbrev pub BeginsSentence : Grammar → ℕ → List Token → Type 0
BeginsSentence g N ts = (zs : List Token) × IsSentenceOf g N (ts ++ zs)

-- the first k tokens begin a sentence; one more do not, or there is none more and they are no sentence
pub record FailsAt (g : Grammar) (N : ℕ) (ts : List Token) (k : ℕ) : Type 0 where
  pub within : k ≤ length ts
  pub begins : BeginsSentence g N (take k ts)
  pub before : k < length ts → BeginsSentence g N (take (suc k) ts) → ⊥
  pub at_end : k ≡ length ts → IsSentenceOf g N ts → ⊥
