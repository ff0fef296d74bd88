-- Items and conflicts as they are printed.
use Rattle.std.specs.Prelude.{ℕ, List, map, slice_get, option_map}
use Rattle.sg_kinds.specs.declared.spec.Spec.{Spec}
use Rattle.sg_kinds.specs.declared.fault.PrintedSymbol.{PrintedSymbol}
use Rattle.sg_kinds.specs.declared.fault.PrintedItem.{PrintedItem}
use Rattle.sg_kinds.specs.declared.fault.PrintedConflict.{PrintedConflict}
use Rattle.sg_grammar.specs.Grammar.{Grammar, right_of}
use Rattle.sg_grammar.specs.declared.grammar.Production.{Production}
use Rattle.sg_grammar.specs.Numbered.{grammar_of}
use Rattle.sg_lalr.specs.declared.items.Item.{Item}
use Rattle.sg_reports.specs.Symbols.{printed_symbols, symbol_in, name_of}

abbrev pub printed_prefix : Spec → List ℕ → List PrintedSymbol
printed_prefix spec w = map (symbol_in (printed_symbols spec)) w

-- an item by a grammar and its symbols: the left side is named as the symbol is, and a start production has none
unfoldable pub item_in : Grammar → List PrintedSymbol → Item → PrintedItem
item_in g symbols i = record {
  left = option_map (λ (r : Production). name_of (symbol_in symbols r.left)) (slice_get g.rules i.production);
  right = map (symbol_in symbols) (right_of g i.production);
  dot = i.dot;
}

abbrev pub printed_item : Spec → Item → PrintedItem
printed_item spec i = item_in (grammar_of spec) (printed_symbols spec) i

abbrev pub printed_conflict : Spec → List ℕ → ℕ → Item → Item → PrintedConflict
printed_conflict spec w t i j = record {
  prefix = printed_prefix spec w;
  terminal = symbol_in (printed_symbols spec) t;
  first = printed_item spec i;
  second = printed_item spec j;
}
