-- The rows of nodes: those that begin productions of one symbol in one state share one.
use Rattle.std.specs.Prelude.{◌≡◌, ◌↔◌, ℕ, ◌+◌, ◌<◌, ◌≤◌, ◌⊎◌, Bool, List, slice_index, slice_set, length}
use Rattle.sg_grammar.specs.Grammar.{Grammar}
use Rattle.sg_sets.specs.Paths.{Linked}
use Rattle.sg_sets.specs.Rows.{Holds}
use Rattle.sg_lalr.specs.declared.lookaheads.Node.{Node}
use Rattle.sg_lalr.specs.Items.{Item}
use Rattle.sg_lalr.specs.Lookaheads.{node_at, BeginsWith}

-- two nodes may share a row: they are one, or begin productions of one symbol in one state
abbrev pub Shares : Grammar → List Node → ℕ → ℕ → Type 0
Shares g nodes b c = (b ≡ c) ⊎ ((X : ℕ) × ((node_at nodes b).state ≡ (node_at nodes c).state)
    × BeginsWith g (node_at nodes b).item X × BeginsWith g (node_at nodes c).item X)

-- the first n nodes have rows below a count, one row only where they may share it
pub record AreSlots (g : Grammar) (nodes : List Node) (n : ℕ) (slots : List ℕ) (count : ℕ) : Type 0 where
  pub long : length slots ≡ n
  pub few : count ≤ n
  pub within : (m : ℕ) → m < n → slice_index slots m < count
  pub apart : (b c : ℕ) → b < n → c < n → slice_index slots b ≡ slice_index slots c → Shares g nodes b c

-- nodes between two places that begin productions of one symbol share a row
abbrev pub IsOneEach : Grammar → List Node → ℕ → ℕ → List ℕ → Type 0
IsOneEach g nodes from to slots = (b c X : ℕ) → from ≤ b → b < to → from ≤ c → c < to
    → BeginsWith g (node_at nodes b).item X → BeginsWith g (node_at nodes c).item X
    → slice_index slots b ≡ slice_index slots c

-- the nodes that begin productions of a symbol have this row, where those from `base` on count
abbrev pub HasRow : ℕ → List ℕ → ℕ → ℕ → Type 0
HasRow base at X slot = (base ≤ slot) × (slice_index at X ≡ slot + 1)

-- a node gets a row: the next one where it begins no production, the one of its symbol, or the next one for its symbol
abbrev pub GetsNext : Grammar → Item → List ℕ → List ℕ → ℕ → ℕ → Type 0
GetsNext g i old new next slot = ((X : ℕ) → BeginsWith g i X → ⊥) × (new ≡ old) × (slot ≡ next)

abbrev pub GetsKnown : Grammar → Item → ℕ → List ℕ → List ℕ → ℕ → Type 0
GetsKnown g i base old new slot = (X : ℕ) × BeginsWith g i X × HasRow base old X slot × (new ≡ old)

abbrev pub GetsFirst : Grammar → Item → ℕ → List ℕ → List ℕ → ℕ → ℕ → Type 0
GetsFirst g i base old new next slot = (X : ℕ) × BeginsWith g i X × (slice_index old X ≤ base) × (X < length old)
    × (new ≡ slice_set old X (next + 1)) × (slot ≡ next)

-- some node that passes has this row
abbrev pub OfSome : List ℕ → (ℕ → Type 0) → ℕ → Type 0
OfSome slots P y = (c : ℕ) × (c < length slots) × P c × (y ≡ slice_index slots c)

-- there are also links from the row of a node to the rows of the nodes that pass
abbrev pub Joined : List (ℕ × ℕ) → List (ℕ × ℕ) → List ℕ → ℕ → (ℕ → Type 0) → Type 0
Joined old now slots a P = (x y : ℕ) → Linked now x y
    ↔ (Linked old x y ⊎ ((x ≡ slice_index slots a) × OfSome slots P y))

-- the rows of the nodes that pass have gained lookaheads
abbrev pub Gained : List (List Bool) → List (List Bool) → List ℕ → (ℕ → ℕ → Type 0) → Type 0
Gained old now slots P = (y u : ℕ) → Holds now y u ↔ (Holds old y u ⊎ OfSome slots (λ c. P c u) y)
