-- Lookaheads along states: the items of all states in one list, and what flows between them.
use Rattle.std.specs.Prelude.{◌≡◌, ◌↔◌, ℕ, Bool, zero, suc, ◌+◌, ◌<◌, ◌≤◌, ◌⊎◌, List, Some, slice_get, slice_index, slice_index_or, length, drop, Contains}
use Rattle.sg_grammar.specs.declared.grammar.Production.{Production}
use Rattle.sg_grammar.specs.Grammar.{Grammar, right_of, symbol_at}
use Rattle.sg_lalr.specs.declared.states.Move.{Move}
use Rattle.sg_lalr.specs.declared.lookaheads.Node.{Node}
use Rattle.sg_sets.specs.Rows.{Holds}
use Rattle.sg_lalr.specs.Items.{Item, item, symbol_of, moved}
use Rattle.sg_lalr.specs.Closure.{HasLeft}
use Rattle.sg_lalr.specs.Automaton.{row_at, goto}
use Rattle.sg_lalr.specs.Least.{Grown}
use Rattle.sg_lalr.specs.Firsts.{Firsts}
use Rattle.sg_lalr.specs.ValidItems.{Begins}

-- the rules of valid items with a state in the place of the prefix
pub data Triple (g : Grammar) (moves : List (List Move)) : ℕ → ℕ → ℕ → ℕ → Type 0 where
  starts : (k p : ℕ) → k < length g.entries → p ≡ length g.rules + k → Triple g moves zero p zero zero
  closes : (s p d t X q u : ℕ) (r : Production) → Triple g moves s p d t → symbol_at g p d ≡ Some X
      → slice_get g.rules q ≡ Some r → X ≡ r.left
      → Begins g (drop (suc d) (right_of g p)) t u → Triple g moves s q zero u
  steps : (s v p d t X : ℕ) → Triple g moves s p d t → symbol_at g p d ≡ Some X → v ≡ goto moves s X
      → Triple g moves v p (suc d) t

abbrev pub node : ℕ → Item → Node
node s i = record { state = s; item = i }

abbrev pub node_at : List Node → ℕ → Node
node_at nodes m = slice_index_or nodes m (node 0 (item 0 0))

-- the item of node m stands in its core as far from the first as the node from the first of its state
abbrev pub IsPlaced : List (List Item) → List Node → List ℕ → ℕ → Type 0
IsPlaced cores nodes firsts m =
    let n = node_at nodes m in
    (k : ℕ) × (m ≡ slice_index firsts n.state + k) × (k < length (row_at cores n.state))
    × (slice_index_or (row_at cores n.state) k (item 0 0) ≡ n.item)

-- the nodes are the items of all cores, those of state s between the s-th place and the next
pub record IsLaid (cores : List (List Item)) (nodes : List Node) (firsts : List ℕ) : Type 0 where
  pub count : length firsts ≡ suc (length cores)
  pub start : slice_index firsts 0 ≡ 0
  pub end : slice_index firsts (length cores) ≡ length nodes
  pub within : (s : ℕ) → s ≤ length cores → slice_index firsts s ≤ length nodes
  pub rising : (s : ℕ) → s < length cores → slice_index firsts s ≤ slice_index firsts (suc s)
  pub has : (s : ℕ) (i : Item) → s < length cores → Contains (row_at cores s) i
      → (m : ℕ) × (m < length nodes) × (node_at nodes m ≡ node s i)
  pub known : (m : ℕ) → m < length nodes → (node_at nodes m).state < length cores
  pub contained : (m : ℕ) → m < length nodes → Contains (row_at cores (node_at nodes m).state) (node_at nodes m).item
  pub placed : (m : ℕ) → m < length nodes → IsPlaced cores nodes firsts m
  pub above : (m : ℕ) → m < length nodes → slice_index firsts (node_at nodes m).state ≤ m
  pub below : (m : ℕ) → m < length nodes → m < slice_index firsts (suc (node_at nodes m).state)
  pub here : (s m : ℕ) → s < length cores → slice_index firsts s ≤ m → m < slice_index firsts (suc s)
      → (node_at nodes m).state ≡ s

-- what stands behind the symbol behind the dot
abbrev pub rest_of : Grammar → Item → List ℕ
rest_of g i = drop (suc i.dot) (right_of g i.production)

-- the beginning of a production of the symbol
abbrev pub BeginsWith : Grammar → Item → ℕ → Type 0
BeginsWith g i X = (i.dot ≡ 0) × HasLeft g.rules X i.production

-- node b is node a behind its symbol; node b begins a production of a's symbol in the same state
abbrev pub MovesTo : Grammar → List (List Move) → List Node → ℕ → ℕ → Type 0
MovesTo g moves nodes a b = (X : ℕ) × (symbol_of g (node_at nodes a).item ≡ Some X)
    × (node_at nodes b ≡ node (goto moves (node_at nodes a).state X) (moved (node_at nodes a).item))

abbrev pub OpensTo : Grammar → List Node → ℕ → ℕ → Type 0
OpensTo g nodes a b = (X : ℕ) × (symbol_of g (node_at nodes a).item ≡ Some X)
    × ((node_at nodes b).state ≡ (node_at nodes a).state) × BeginsWith g (node_at nodes b).item X

-- lookaheads flow from a to b
abbrev pub FlowsTo : Grammar → List (List Move) → List Node → ℕ → ℕ → Type 0
FlowsTo g moves nodes a b = MovesTo g moves nodes a b ⊎ (OpensTo g nodes a b
    × Grown g.rules 0 (rest_of g (node_at nodes a).item))

-- a gives b the lookahead u
abbrev pub Gives : Grammar → List Node → ℕ → ℕ → ℕ → Type 0
Gives g nodes a b u = OpensTo g nodes a b × Firsts g (rest_of g (node_at nodes a).item) u

-- the beginning of an entry
abbrev pub IsStart : Grammar → Node → Type 0
IsStart g n = (n.state ≡ 0) × (n.item.dot ≡ 0) × (length g.rules ≤ n.item.production)

-- each row has the lookaheads with which the node's item is a triple of its state
abbrev pub AreLookaheads : Grammar → List (List Move) → List Node → List (List Bool) → Type 0
AreLookaheads g moves nodes rows = (m t : ℕ) → m < length nodes
    → Holds rows m t ↔ Triple g moves (node_at nodes m).state (node_at nodes m).item.production
    (node_at nodes m).item.dot t
