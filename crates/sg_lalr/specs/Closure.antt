-- The closure of a list of items: with an item it has the beginnings of the productions of the symbol behind its dot.
use Rattle.std.specs.Prelude.{◌≡◌, ◌≢◌, ◌↔◌, ℕ, zero, ◌+◌, ◌<◌, Bool, List, [], Some, slice_get, slice_index_or, length, All, AllPairs, Contains}
use Rattle.sg_grammar.specs.declared.grammar.Production.{Production}
use Rattle.sg_grammar.specs.Grammar.{Grammar, symbol_at}
use Rattle.sg_sets.specs.Members.{Has}
use Rattle.sg_lalr.specs.Items.{Item, item, symbol_of, IsRising}

pub data In (g : Grammar) (kernel : List Item) : ℕ → ℕ → Type 0 where
  kept : (p d : ℕ) → Contains kernel (item p d) → In g kernel p d
  opened : (p d X q : ℕ) (r : Production) → In g kernel p d → symbol_at g p d ≡ Some X → slice_get g.rules q ≡ Some r
      → X ≡ r.left → In g kernel q zero

abbrev pub InRange : Grammar → Item → Type 0
InRange g i = i.production < length g.rules + length g.entries

-- the items of the closure, in their order
pub record IsClosure (g : Grammar) (kernel items : List Item) : Type 0 where
  pub rising : IsRising items
  pub within : All (InRange g) items
  pub exact : (p d : ℕ) → Contains items (item p d) ↔ In g kernel p d

-- production b has the symbol as its left side
abbrev pub HasLeft : List Production → ℕ → ℕ → Type 0
HasLeft rules X b = (r : Production) × (slice_get rules b ≡ Some r) × (X ≡ r.left)

-- the left side of a production is a left corner of a's right side, in some steps or none
pub data Corner (rules : List Production) : ℕ → ℕ → Type 0 where
  same : (a : ℕ) (r : Production) → slice_get rules a ≡ Some r → Corner rules a a
  further : (a b c X : ℕ) (r : Production) → Corner rules a b → slice_get rules b ≡ Some r
      → slice_get r.right 0 ≡ Some X → HasLeft rules X c → Corner rules a c

-- the production begins in the closure because of this symbol behind a dot
abbrev pub Opens : List Production → ℕ → ℕ → Type 0
Opens rules X q = (a : ℕ) × HasLeft rules X a × Corner rules a q

abbrev pub OpensAt : Grammar → Item → ℕ → Type 0
OpensAt g i q = (X : ℕ) × (symbol_of g i ≡ Some X) × Opens g.rules X q

-- for each symbol the productions that begin because of it
pub record AreOpenings (g : Grammar) (lists : List (List ℕ)) : Type 0 where
  pub count : length lists ≡ g.symbols
  pub exact : (X q : ℕ) → Contains (slice_index_or lists X []) q ↔ Opens g.rules X q

-- the numbers of the set, each once
pub record AreOpened (there : List Bool) (opened : List ℕ) : Type 0 where
  pub apart : AllPairs ◌≢◌ opened
  pub exact : (q : ℕ) → Contains opened q ↔ Has there q

-- a list from which a state is made: its items begin no production but those of the entries
pub record IsKernel (g : Grammar) (kernel : List Item) : Type 0 where
  pub rising : IsRising kernel
  pub within : All (InRange g) kernel
  pub dots : All (λ (i : Item). i.production < length g.rules → 0 < i.dot) kernel

-- the beginning of one of these productions
abbrev pub IsOpened : List ℕ → Item → Type 0
IsOpened productions i = (i.dot ≡ 0) × Contains productions i.production
