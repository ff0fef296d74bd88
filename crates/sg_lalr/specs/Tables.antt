-- The tables of a grammar as contracts see them: the grammar, and the cores of its viable prefixes. A state is a
-- place among them.
use Rattle.std.specs.Prelude.{◌≡◌, ◌≢◌, ◌↔◌, ⊤, ℕ, ◌<◌, ◌≤◌, Bool, List, [], ◌∷◌, length, reverse, slice_index, suc, Contains}
use Rattle.sg_grammar.specs.Grammar.{Grammar}
use Rattle.sg_grammar.specs.WellFormed.{IsWellFormed}
use Rattle.sg_grammar.specs.Derives.{AllProductive, IsFirstUnproductive}
use Rattle.sg_lalr.specs.declared.states.Move.{Move}
use Rattle.sg_lalr.specs.declared.states.Origin.{Origin}
use Rattle.sg_lalr.specs.declared.lookaheads.Node.{Node}
use Rattle.sg_lalr.specs.declared.conflict.Deed.{Deed}
use Rattle.sg_lalr.specs.declared.conflict.Deed.TheVariants.{Shifts, Reduces}
pub use Rattle.sg_lalr.specs.declared.table.Action.{Action}
use Rattle.sg_lalr.specs.declared.table.Action.TheVariants as action
pub use Rattle.sg_lalr.specs.declared.table.TableFault.{TableFault}
use Rattle.sg_lalr.specs.declared.table.TableFault.TheVariants as fault
use Rattle.sg_lalr.specs.Items.{Item, item, IsRising, HasNext}
use Rattle.sg_lalr.specs.ValidItems.{InCore, Viable}
use Rattle.sg_lalr.specs.Prefixes.{TooMany}
use Rattle.sg_lalr.specs.Conflict.{Acts, LeastConflict, IsQuiet}
use Rattle.sg_lalr.specs.Automaton.{row_at, IsWhole}
use Rattle.sg_lalr.specs.Lookaheads.{IsLaid, AreLookaheads}
use Rattle.sg_lalr.specs.Reductions.{Reduction, ReducesBy, DoesReduce, reductions_at}

pub record View : Type 0 where
  pub grammar : Grammar
  pub cores : List (List Item)

abbrev pub viewed : Grammar → List (List Item) → View
viewed g cores = record { grammar = g; cores = cores }

-- the items are the core of the prefix, in their order
abbrev pub IsCore : Grammar → List ℕ → List Item → Type 0
IsCore g w core = IsRising core × ((p d : ℕ) → Contains core (item p d) ↔ InCore g w p d)

-- a grammar has these tables: each symbol derives some tokens, no prefix has a conflict, and the states are the cores
pub record IsTables (v : View) : Type 0 where
  pub formed : IsWellFormed v.grammar
  pub productive : AllProductive v.grammar
  pub first : 0 < length v.grammar.entries → (0 < length v.cores) × IsCore v.grammar [] (row_at v.cores 0)
  pub none : length v.grammar.entries ≡ 0 → v.cores ≡ []
  pub realized : (s : ℕ) → s < length v.cores → (w : List ℕ) × Viable v.grammar w
      × IsCore v.grammar w (row_at v.cores s)
  pub complete : (w : List ℕ) → Viable v.grammar w → (s : ℕ) × (s < length v.cores)
      × IsCore v.grammar w (row_at v.cores s)
  pub distinct : (s u : ℕ) → s < u → u < length v.cores → row_at v.cores s ≢ row_at v.cores u
  pub quiet : IsQuiet v.grammar

-- state u is behind the symbol in state s: it is the core of each prefix of s that is longer by it
abbrev pub Leads : View → ℕ → ℕ → ℕ → Type 0
Leads v s X u = (u < length v.cores) × ((w : List ℕ) → IsCore v.grammar w (row_at v.cores s)
    → IsCore v.grammar (X ∷ w) (row_at v.cores u))

-- an item of the state does this on the terminal
abbrev pub ActsIn : View → ℕ → ℕ → Deed → Type 0
ActsIn v s t a = (i : Item) × ((w : List ℕ) → IsCore v.grammar w (row_at v.cores s) → Acts v.grammar w t i a)

-- the answer is what the items of the state do on the terminal
abbrev pub IsAction : View → ℕ → ℕ → Action → Type 0
IsAction v s t (action.Shift u) = ActsIn v s t Shifts × Leads v s t u
IsAction v s t (action.Reduce p) = (p < length v.grammar.rules) × ActsIn v s t (Reduces p)
IsAction v s t action.Accept = (p : ℕ) × (length v.grammar.rules ≤ p) × ActsIn v s t (Reduces p)
IsAction v s t action.Stop = (w : List ℕ) (i : Item) (a : Deed) → IsCore v.grammar w (row_at v.cores s)
    → Acts v.grammar w t i a → ⊥

-- what is decided of tables: what a state does on a terminal, and the state behind a symbol
pub record Decided (v : View) : Type 0 where
  pub act : ℕ → ℕ → Action
  pub go : ℕ → ℕ → ℕ
  pub acts : (s t : ℕ) → s < length v.cores → t < v.grammar.terminals → IsAction v s t (act s t)
  pub leads : (s X : ℕ) → s < length v.cores → HasNext v.grammar (row_at v.cores s) X → Leads v s X (go s X)

-- why a grammar has no tables
abbrev pub IsTableFault : Grammar → TableFault → Type 0
IsTableFault g (fault.Unproductive X) = IsFirstUnproductive g X
IsTableFault g fault.States = AllProductive g × TooMany g
IsTableFault g (fault.Conflict w t i j) = AllProductive g × (TooMany g → ⊥) × LeastConflict g (reverse w) t i j
IsTableFault g fault.NoMemory = ⊤

-- the automaton and the lookaheads of a grammar with an entry
pub record IsFull (g : Grammar) (kernels cores : List (List Item)) (moves : List (List Move)) (origins : List Origin)
    (nodes : List Node) (firsts : List ℕ) (rows : List (List Bool)) : Type 0 where
  pub whole : IsWhole g kernels cores moves origins
  pub laid : IsLaid cores nodes firsts
  pub exact : AreLookaheads g moves nodes rows
  pub quiet : IsQuiet g

-- what tables are made of
pub record IsMade (g : Grammar) (kernels cores : List (List Item)) (moves : List (List Move)) (origins : List Origin)
    (nodes : List Node) (firsts : List ℕ) (rows : List (List Bool)) : Type 0 where
  pub productive : AllProductive g
  pub none : length g.entries ≡ 0 → cores ≡ []
  pub full : 0 < length g.entries → IsFull g kernels cores moves origins nodes firsts rows

-- what tables keep: the moves and the reductions of states that were made
pub record IsKept (g : Grammar) (cores : List (List Item)) (moves : List (List Move))
    (reductions : List (List Reduction)) : Type 0 where
  pub kernels : List (List Item)
  pub origins : List Origin
  pub nodes : List Node
  pub firsts : List ℕ
  pub rows : List (List Bool)
  pub made : IsMade g kernels cores moves origins nodes firsts rows
  pub count : length reductions ≡ length cores
  pub reduces : (s p t : ℕ) → s < length cores → ReducesBy (reductions_at reductions s) p t
      ↔ DoesReduce g nodes rows (slice_index firsts s) (slice_index firsts (suc s)) p t
