-- When the numbers of a grammar are in range, and the end and the markers stand only where they are to stand.
use Rattle.std.specs.Prelude.{◌≡◌, ℕ, suc, ◌^◌, ◌<◌, ◌≤◌, List, [], ◌∷◌, length, All, Some, slice_get}
use Rattle.sg_grammar.specs.Grammar.{Grammar, Production}

-- the symbols are in range and none of the first, which are the end and the markers
abbrev pub AreBetween : ℕ → ℕ → List ℕ → Type 0
AreBetween first symbols Xs = All (λ X. (first ≤ X) × (X < symbols)) Xs

abbrev pub IsRight : ℕ → ℕ → List ℕ → Type 0
IsRight first symbols right = (length right ≤ 2 ^ 30) × AreBetween first symbols right

-- the left side is a nonterminal
abbrev pub IsRule : ℕ → ℕ → ℕ → Production → Type 0
IsRule first terminals symbols r = (terminals ≤ r.left) × (r.left < symbols) × IsRight first symbols r.right

-- the right side of the start production of entry k: its marker, and then such symbols
abbrev pub IsStart : ℕ → ℕ → ℕ → List ℕ → Type 0
IsStart first symbols k [] = ⊥
IsStart first symbols k (X ∷ Xs) = (X ≡ suc k) × (length Xs < 2 ^ 30) × AreBetween first symbols Xs

pub record IsWellFormed (g : Grammar) : Type 0 where
  pub ends : length g.entries < g.terminals
  pub within : g.terminals ≤ g.symbols
  pub few : length g.rules ≤ 2 ^ 30
  pub few_entries : length g.entries ≤ 2 ^ 30
  pub rules : All (IsRule (suc (length g.entries)) g.terminals g.symbols) g.rules
  pub entries : (k : ℕ) (r : Production) → slice_get g.entries k ≡ Some r
      → IsStart (suc (length g.entries)) g.symbols k r.right
