-- Items without lookaheads, and lists of them in their order.
use Rattle.std.specs.Prelude.{◌≡◌, ℕ, suc, ◌<◌, ◌⊎◌, Bool, false, nat_eq, List, Option, Some, None, map, filter, AllPairs, Contains}
use Rattle.sg_grammar.specs.Grammar.{Grammar, symbol_at}
pub use Rattle.sg_lalr.specs.declared.items.Item.{Item}

abbrev pub item : ℕ → ℕ → Item
item p d = record { production = p; dot = d }

-- the order of items: by production, then by dot
abbrev pub Before : Item → Item → Type 0
Before i j = (i.production < j.production) ⊎ ((i.production ≡ j.production) × (i.dot < j.dot))

abbrev pub IsRising : List Item → Type 0
IsRising items = AllPairs Before items

-- the symbol behind an item's dot
abbrev pub symbol_of : Grammar → Item → Option ℕ
symbol_of g i = symbol_at g i.production i.dot

-- some item has its dot before the symbol
abbrev pub HasNext : Grammar → List Item → ℕ → Type 0
HasNext g items X = (i : Item) × Contains items i × (symbol_of g i ≡ Some X)

-- the items that have their dot before the symbol, with their dots behind it
abbrev pub is_before : ℕ → Option ℕ → Bool
is_before X None = false
is_before X (Some Y) = nat_eq X Y

abbrev pub moved : Item → Item
moved i = item i.production (suc i.dot)

abbrev pub advance : Grammar → ℕ → List Item → List Item
advance g X items = map moved (filter (λ i. is_before X (symbol_of g i)) items)
