-- The items that are valid for a prefix, with their lookaheads. The symbols of a prefix stand from the last to the
-- first.
use Rattle.std.specs.Prelude.{◌≡◌, ◌↔◌, ℕ, zero, suc, ◌+◌, ◌<◌, List, [], ◌∷◌, ◌++◌, Some, slice_get, length, drop}
use Rattle.sg_grammar.specs.Grammar.{Grammar, right_of, symbol_at}
use Rattle.sg_grammar.specs.declared.grammar.Production.{Production}

-- what a string derives, with t behind it, can begin with u
pub data Begins (g : Grammar) : List ℕ → ℕ → ℕ → Type 0 where
  behind : (t : ℕ) → Begins g [] t t
  here : (X : ℕ) (Xs : List ℕ) (t : ℕ) → X < g.terminals → Begins g (X ∷ Xs) t X
  inside : (q : ℕ) (r : Production) (X : ℕ) (Xs : List ℕ) (t u : ℕ) → slice_get g.rules q ≡ Some r → X ≡ r.left
      → Begins g (r.right ++ Xs) t u → Begins g (X ∷ Xs) t u

-- the item of production p with its dot at d is valid for the prefix with lookahead t
pub data Valid (g : Grammar) : List ℕ → ℕ → ℕ → ℕ → Type 0 where
  start : (k p : ℕ) → k < length g.entries → p ≡ length g.rules + k → Valid g [] p zero zero
  close : (w : List ℕ) (p d t X q u : ℕ) (r : Production) → Valid g w p d t → symbol_at g p d ≡ Some X
      → slice_get g.rules q ≡ Some r → X ≡ r.left
      → Begins g (drop (suc d) (right_of g p)) t u → Valid g w q zero u
  step : (w : List ℕ) (p d t X : ℕ) → Valid g w p d t → symbol_at g p d ≡ Some X → Valid g (X ∷ w) p (suc d) t

-- the core of a prefix: its valid items without their lookaheads
abbrev pub InCore : Grammar → List ℕ → ℕ → ℕ → Type 0
InCore g w p d = (t : ℕ) × Valid g w p d t

abbrev pub Viable : Grammar → List ℕ → Type 0
Viable g w = (p : ℕ) × (d : ℕ) × InCore g w p d

abbrev pub SameCore : Grammar → List ℕ → List ℕ → Type 0
SameCore g w h = (p d : ℕ) → InCore g w p d ↔ InCore g h p d

-- t is a lookahead of an item: the item is valid with t for some prefix of the same core
abbrev pub Looks : Grammar → List ℕ → ℕ → ℕ → ℕ → Type 0
Looks g w p d t = (h : List ℕ) × SameCore g w h × Valid g h p d t
