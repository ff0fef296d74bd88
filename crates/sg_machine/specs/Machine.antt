-- What the shift-reduce machine does over the tables of a grammar.
use Rattle.std.specs.Prelude.{◌≡◌, ℕ, zero, suc, List, [], ◌∷◌, Some, slice_get, length, map}
use Rattle.sg_grammar.specs.declared.grammar.Production.{Production}
use Rattle.sg_grammar.specs.Derives.{Token, Algebra}
use Rattle.sg_lalr.specs.declared.table.Action.TheVariants as action
use Rattle.sg_lalr.specs.Tables.{View, Decided}

-- the terminal of the first token, or the end, 0
abbrev pub look : List Token → ℕ
look [] = 0
look (x ∷ ts) = x.terminal

-- the state behind a prefix, whose symbols stand from the last to the first
abbrev pub state_behind : {v : View} → Decided v → List ℕ → ℕ
state_behind m [] = 0
state_behind m (X ∷ w) = m.go (state_behind m w) X

-- a stack holds cells, a state with the result of its symbol each, and its top stands first
abbrev pub top : {A : Type 0} → List (ℕ × A) → ℕ
top [] = 0
top (c ∷ cs) = c.0

-- these, one after the other, put on top of a stack
abbrev pub pushed : {A : Type 0} → List A → List A → List A
pushed [] s = s
pushed (c ∷ cs) s = pushed cs (c ∷ s)

-- the results of cells
abbrev pub results_in : {A : Type 0} → List (ℕ × A) → List A
results_in cells = map (λ c. c.1) cells

-- in so many steps the machine goes from one stack and rest of the tokens to another: a shift pushes a token's cell,
-- and a reduction pops a cell for each symbol of the right side and pushes that of the left side
pub data Run {A : Type 0} {v : View} (alg : Algebra A) (m : Decided v) : ℕ → List (ℕ × A) → List Token
    → List (ℕ × A) → List Token → Type 0 where
  stay : (s : List (ℕ × A)) (ts : List Token) → Run alg m zero s ts s ts
  shift : (n u : ℕ) (x : Token) (s z : List (ℕ × A)) (ts us : List Token)
      → m.act (top s) x.terminal ≡ action.Shift u
      → Run alg m n ((u, alg.leaf x) ∷ s) ts z us
      → Run alg m (suc n) s (x ∷ ts) z us
  reduce : (n p : ℕ) (r : Production) (cells base s z : List (ℕ × A)) (ts us : List Token)
      → m.act (top s) (look ts) ≡ action.Reduce p → slice_get v.grammar.rules p ≡ Some r
      → s ≡ pushed cells base → length cells ≡ length r.right
      → Run alg m n ((m.go (top base) r.left, alg.node p (results_in cells)) ∷ base) ts z us
      → Run alg m (suc n) s ts z us

-- the stack with which the sentences of an entry begin: the cell of its marker, whose result is of no use
abbrev pub begun : {A : Type 0} {v : View} → Decided v → ℕ → A → List (ℕ × A)
begun m k a = (state_behind m (suc k ∷ []), a) ∷ []

-- the stack with which they end: over it the cell of the nonterminal
abbrev pub ended : {A : Type 0} {v : View} → Decided v → ℕ → ℕ → A → A → List (ℕ × A)
ended m k N a b = (state_behind m (N ∷ suc k ∷ []), b) ∷ begun m k a

-- from this stack the machine accepts the tokens in so many steps, and ends with that stack
abbrev pub Accepts : {A : Type 0} {v : View} → Algebra A → Decided v → ℕ → List (ℕ × A) → List Token
    → List (ℕ × A) → Type 0
Accepts alg m n s ts z = Run alg m n s ts z [] × (m.act (top z) 0 ≡ action.Accept)

-- from this stack the machine stops before the rest of the tokens
abbrev pub StopsBefore : {A : Type 0} {v : View} → Algebra A → Decided v → List (ℕ × A) → List Token → List Token
    → Type 0
StopsBefore {A} alg m s ts rest = (n : ℕ) × (z : List (ℕ × A)) × Run alg m n s ts z rest
    × (m.act (top z) (look rest) ≡ action.Stop)
