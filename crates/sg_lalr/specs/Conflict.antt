-- Conflicts: two items of one core that do different things on one terminal.
use Rattle.std.specs.Prelude.{◌≡◌, ◌≢◌, ℕ, ◌<◌, ◌≤◌, List, Some, None}
use Rattle.sg_grammar.specs.Grammar.{Grammar, symbol_at}
pub use Rattle.sg_lalr.specs.declared.conflict.Deed.{Deed}
use Rattle.sg_lalr.specs.declared.conflict.Deed.TheVariants.{Shifts, Reduces}
use Rattle.sg_lalr.specs.Items.{Item, Before}
use Rattle.sg_lalr.specs.Prefixes.{Less}
use Rattle.sg_lalr.specs.ValidItems.{InCore, Looks}

-- what an item of the core does on a terminal: it shifts where its dot is before it, and reduces where its dot is at
-- the end and the terminal is its lookahead
abbrev pub Acts : Grammar → List ℕ → ℕ → Item → Deed → Type 0
Acts g w t i Shifts = (symbol_at g i.production i.dot ≡ Some t) × InCore g w i.production i.dot
Acts g w t i (Reduces p) = (p ≡ i.production) × (symbol_at g i.production i.dot ≡ None) × Looks g w i.production i.dot t

-- two items do different things on a terminal
pub record Conflict (g : Grammar) (w : List ℕ) (t : ℕ) : Type 0 where
  pub terminal : t < g.terminals
  pub one : Item
  pub other : Item
  pub does : Deed
  pub differs : Deed
  pub acts : Acts g w t one does
  pub acts_too : Acts g w t other differs
  pub different : does ≢ differs

-- the conflict of the least prefix that has one, on its least terminal, with the first item that acts on it and the
-- first that acts otherwise
pub record LeastConflict (g : Grammar) (w : List ℕ) (t : ℕ) (i j : Item) : Type 0 where
  pub least_prefix : (h : List ℕ) (u : ℕ) → Conflict g h u → Less h w → ⊥
  pub least_terminal : (u : ℕ) → Conflict g w u → t ≤ u
  pub terminal : t < g.terminals
  pub does : Deed
  pub acts : Acts g w t i does
  pub first : (k : Item) (a : Deed) → Before k i → Acts g w t k a → ⊥
  pub differs : Deed
  pub acts_too : Acts g w t j differs
  pub different : differs ≢ does
  pub second : (k : Item) (a : Deed) → Before k j → Acts g w t k a → a ≡ does

-- no prefix has a conflict
abbrev pub IsQuiet : Grammar → Type 0
IsQuiet g = (w : List ℕ) (t : ℕ) → Conflict g w t → ⊥
