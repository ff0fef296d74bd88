-- Conflicts within a state, by its nodes and their rows.
use Rattle.std.specs.Prelude.{◌≡◌, ◌≢◌, ℕ, ◌<◌, ◌≤◌, Bool, List, Some, None, suc, slice_index}
use Rattle.sg_grammar.specs.Grammar.{Grammar}
use Rattle.sg_sets.specs.Rows.{Holds}
use Rattle.sg_lalr.specs.declared.lookaheads.Node.{Node}
use Rattle.sg_lalr.specs.declared.conflict.Deed.{Deed}
use Rattle.sg_lalr.specs.declared.conflict.Deed.TheVariants.{Shifts, Reduces}
use Rattle.sg_lalr.specs.Items.{symbol_of}
use Rattle.sg_lalr.specs.Lookaheads.{node_at}

-- what node m does on a terminal
abbrev pub Does : Grammar → List Node → List (List Bool) → ℕ → ℕ → Deed → Type 0
Does g nodes rows t m Shifts = symbol_of g (node_at nodes m).item ≡ Some t
Does g nodes rows t m (Reduces p) = (p ≡ (node_at nodes m).item.production)
    × (symbol_of g (node_at nodes m).item ≡ None) × Holds rows m t

-- two nodes between two places do different things on a terminal
pub record Clashes (g : Grammar) (nodes : List Node) (rows : List (List Bool)) (from to t : ℕ) : Type 0 where
  pub terminal : t < g.terminals
  pub one : ℕ
  pub other : ℕ
  pub does : Deed
  pub differs : Deed
  pub one_above : from ≤ one
  pub one_below : one < to
  pub other_above : from ≤ other
  pub other_below : other < to
  pub acts : Does g nodes rows t one does
  pub acts_too : Does g nodes rows t other differs
  pub different : does ≢ differs

-- some node between two places shifts the terminal; some reduces on it
abbrev pub ShiftsThere : Grammar → List Node → ℕ → ℕ → ℕ → Type 0
ShiftsThere g nodes from to t = (m : ℕ) × (from ≤ m) × (m < to) × (symbol_of g (node_at nodes m).item ≡ Some t)

abbrev pub ReducesThere : Grammar → List Node → List (List Bool) → ℕ → ℕ → ℕ → Type 0
ReducesThere g nodes rows from to t = (m : ℕ) × (from ≤ m) × (m < to) × (symbol_of g (node_at nodes m).item ≡ None)
    × Holds rows m t

-- completed items between two places are of different productions
abbrev pub IsApart : Grammar → List Node → ℕ → ℕ → Type 0
IsApart g nodes from to = (m n : ℕ) → from ≤ m → m < n → n < to → symbol_of g (node_at nodes m).item ≡ None
    → symbol_of g (node_at nodes n).item ≡ None → (node_at nodes m).item.production ≢ (node_at nodes n).item.production

-- no state below this one has a conflict
abbrev pub IsClearBelow : Grammar → List Node → List ℕ → List (List Bool) → ℕ → Type 0
IsClearBelow g nodes firsts rows s = (r u : ℕ) → r < s
    → Clashes g nodes rows (slice_index firsts r) (slice_index firsts (suc r)) u → ⊥
