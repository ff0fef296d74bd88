-- The automaton, and how much of it was found so far.
use Rattle.std.specs.Prelude.{◌≡◌, ◌≢◌, ◌↔◌, ℕ, zero, suc, ◌<◌, ◌≤◌, ◌⊎◌, if◌then◌else◌, nat_eq, List, [], ◌∷◌, ◌++◌, length, slice_index_or, All, AllPairs, Contains}
use Rattle.sg_grammar.specs.Grammar.{Grammar}
use Rattle.sg_lalr.specs.declared.states.Move.{Move}
use Rattle.sg_lalr.specs.declared.states.Origin.{Origin}
use Rattle.sg_lalr.specs.Items.{Item, item, HasNext, advance}
use Rattle.sg_lalr.specs.Closure.{IsKernel, IsClosure}

-- the items of a state
abbrev pub row_at : List (List Item) → ℕ → List Item
row_at rows s = slice_index_or rows s []

-- each symbol's row has the items that have their dot before it, with their dots behind it
abbrev pub IsSpread : Grammar → List Item → List (List Item) → Type 0
IsSpread g items rows = (length rows ≡ g.symbols) × ((X : ℕ) → X < g.symbols → row_at rows X ≡ advance g X items)

-- these are the symbols before which some item has its dot, each once
abbrev pub IsNamed : Grammar → List Item → List ℕ → Type 0
IsNamed g items symbols = AllPairs ◌≢◌ symbols × ((X : ℕ) → Contains symbols X ↔ HasNext g items X)

-- the same, by their numbers
abbrev pub IsListed : Grammar → List Item → List ℕ → Type 0
IsListed g items symbols = AllPairs ◌<◌ symbols × ((X : ℕ) → Contains symbols X ↔ HasNext g items X)

abbrev pub moves_at : List (List Move) → ℕ → List Move
moves_at moves s = slice_index_or moves s []

abbrev pub move_at : List Move → ℕ → Move
move_at row k = slice_index_or row k (record { symbol = 0; target = 0 })

-- moves by their symbols
abbrev pub IsSorted : List Move → Type 0
IsSorted moves = AllPairs (λ (m n : Move). m.symbol < n.symbol) moves

-- where a move on the symbol leads
abbrev pub leads_to : List Move → ℕ → ℕ
leads_to [] X = 0
leads_to (m ∷ ms) X = if nat_eq m.symbol X then m.target else leads_to ms X

abbrev pub goto : List (List Move) → ℕ → ℕ → ℕ
goto moves s X = leads_to (moves_at moves s) X

-- the items with which the entries begin
abbrev pub starts_from : ℕ → ℕ → List Item
starts_from p zero = []
starts_from p (suc n) = item p 0 ∷ starts_from (suc p) n

abbrev pub start_items : Grammar → List Item
start_items g = starts_from (length g.rules) (length g.entries)

abbrev pub origin : ℕ → ℕ → Origin
origin s X = record { state = s; symbol = X }

abbrev pub Earlier : Origin → Origin → Type 0
Earlier o p = (o.state < p.state) ⊎ ((o.state ≡ p.state) × (o.symbol < p.symbol))

abbrev pub NotLater : Origin → Origin → Type 0
NotLater o p = Earlier o p ⊎ ((o.state ≡ p.state) × (o.symbol ≡ p.symbol))

-- state v is behind the symbol in the state with this core
abbrev pub IsBehind : Grammar → List (List Item) → List Item → ℕ → ℕ → Type 0
IsBehind g kernels core X v = (v < length kernels) × (row_at kernels v ≡ advance g X core)

abbrev pub origin_at : List Origin → ℕ → Origin
origin_at origins k = slice_index_or origins k (origin 0 0)

-- state suc k was found first from an earlier state
pub record ComesFrom (g : Grammar) (kernels cores : List (List Item)) (k : ℕ) (o : Origin) : Type 0 where
  pub earlier : o.state ≤ k
  pub expanded : o.state < length cores
  pub next : HasNext g (row_at cores o.state) o.symbol
  pub behind : row_at kernels (suc k) ≡ advance g o.symbol (row_at cores o.state)

-- the kernels that were found, the cores of the first of them, the moves of the first of these, and from where all
-- but the first state came
pub record IsPart (g : Grammar) (kernels cores : List (List Item)) (moves : List (List Move))
    (origins : List Origin) : Type 0 where
  pub some : 0 < length kernels
  pub first : row_at kernels 0 ≡ start_items g
  pub kernel : (v : ℕ) → v < length kernels → IsKernel g (row_at kernels v)
  pub few : length cores ≤ length kernels
  pub closed : (s : ℕ) → s < length cores → IsClosure g (row_at kernels s) (row_at cores s)
  pub expanded : length moves ≤ length cores
  pub leads : (s X : ℕ) → s < length moves → HasNext g (row_at cores s) X
      → IsBehind g kernels (row_at cores s) X (goto moves s X)
  pub count : length kernels ≡ suc (length origins)
  pub comes : (k : ℕ) → k < length origins → ComesFrom g kernels cores k (origin_at origins k)
  pub distinct : AllPairs ◌≢◌ kernels
  pub rising : AllPairs Earlier origins
  pub earliest : (s X k : ℕ) → s < length moves → HasNext g (row_at cores s) X → goto moves s X ≡ suc k
      → NotLater (origin_at origins k) (origin s X)
  pub sorted : (s : ℕ) → s < length moves → IsSorted (moves_at moves s)
  pub only : (s : ℕ) → s < length moves → All (λ (m : Move). HasNext g (row_at cores s) m.symbol) (moves_at moves s)

-- the kernels with one more
abbrev pub Entered : List (List Item) → List (List Item) → List Origin → List Origin → List Item → Origin → ℕ → Type 0
Entered old new origins more kernel o v =
    ((new ≡ old) × (more ≡ origins) × (v < length old) × (row_at old v ≡ kernel))
    ⊎ ((new ≡ old ++ kernel ∷ []) × (more ≡ origins ++ o ∷ []) × (v ≡ length old) × (Contains old kernel → ⊥))

-- a state has a move to a kernel that is not among as many as there may be
pub record Overflows (g : Grammar) : Type 0 where
  pub kernels : List (List Item)
  pub cores : List (List Item)
  pub moves : List (List Move)
  pub origins : List Origin
  pub part : IsPart g kernels cores moves origins
  pub full : length kernels ≡ 65536
  pub state : ℕ
  pub symbol : ℕ
  pub expanded : state < length cores
  pub next : HasNext g (row_at cores state) symbol
  pub absent : Contains kernels (advance g symbol (row_at cores state)) → ⊥

-- the states with their cores and moves are all that there are, and not too many
pub record IsWhole (g : Grammar) (kernels cores : List (List Item)) (moves : List (List Move))
    (origins : List Origin) : Type 0 where
  pub part : IsPart g kernels cores moves origins
  pub cored : length cores ≡ length kernels
  pub moved : length moves ≡ length kernels
  pub fit : length kernels ≤ 65536

-- the state of a prefix, by its moves
abbrev pub state_of : List (List Move) → List ℕ → ℕ
state_of moves [] = 0
state_of moves (X ∷ w) = goto moves (state_of moves w) X

-- the prefix by which a state was found first
pub data FoundBy (origins : List Origin) : ℕ → List ℕ → Type 0 where
  at_first : FoundBy origins 0 []
  further : (k s : ℕ) (w : List ℕ) → k < length origins → s ≡ (origin_at origins k).state → FoundBy origins s w
      → FoundBy origins (suc k) ((origin_at origins k).symbol ∷ w)
