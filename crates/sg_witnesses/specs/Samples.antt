-- Samples as they are told: a sentence's front for the prefix of a conflict, and the nonterminals without a sentence.
use Rattle.std.specs.Prelude.{◌≡◌, ℕ, ◌-◌, false, if◌then◌else◌, nat_lt, bytes_eq, List, [], ◌∷◌, ◌++◌, length, flat_map, Ok, codes}
use Rattle.sg_kinds.specs.Values.{Bytes}
use Rattle.sg_kinds.specs.declared.fault.PrintedConflict.{PrintedConflict}
use Rattle.sg_kinds.specs.declared.fault.PrintedItem.{PrintedItem}
use Rattle.sg_kinds.specs.declared.fault.PrintedSymbol.{PrintedSymbol}
use Rattle.sg_kinds.specs.declared.fault.SpecFault.{SpecFault}
use Rattle.sg_kinds.specs.declared.spec.Spec.{Spec}
use Rattle.sg_ast.specs.Declarations.{Decl}
use Rattle.sg_grammar.specs.Numbered.{grammar_of}
use Rattle.sg_lalr.specs.declared.items.Item.{Item}
use Rattle.sg_lalr.specs.declared.table.TableFault.TheVariants.{Conflict}
use Rattle.sg_lalr.specs.Tables.{IsTableFault}
use Rattle.sg_samples.specs.Samples.{AreBarren, IsSample}
use Rattle.sg_faults.specs.FaultLine.{fault_line, item_text, symbol_word}
use Rattle.sg_reports.specs.Symbols.{printed_symbols, symbol_in, symbols_named, name_of}
use Rattle.sg_reports.specs.Tables.{printed_table}
use Rattle.sg_load.specs.Trees.{trees_in}
use Rattle.sg_load.specs.Only.{IsTheSpec}

-- the text has these declarations, which have this record
pub record HasSpec (bytes : Bytes) (decls : List Decl) (spec : Spec) : Type 0 where
  pub are : trees_in bytes ≡ Ok decls
  pub the : IsTheSpec decls spec

-- behind this prefix a grammar has its least conflict, which is printed as the fault's line
pub record IsPrefix (decls : List Decl) (spec : Spec) (f : SpecFault) (w : List ℕ) : Type 0 where
  pub terminal : ℕ
  pub first : Item
  pub second : Item
  pub least : IsTableFault (grammar_of spec) (Conflict w terminal first second)
  pub same : fault_line (printed_table spec decls (Conflict w terminal first second)) ≡ fault_line f

-- a sample of that prefix
pub record IsSampled (decls : List Decl) (spec : Spec) (f : SpecFault) (Xs : List ℕ) : Type 0 where
  pub prefix : List ℕ
  pub is_prefix : IsPrefix decls spec f prefix
  pub is_sample : IsSample (grammar_of spec) prefix Xs

-- a symbol behind a blank
abbrev pub symbol_text : List PrintedSymbol → ℕ → Bytes
symbol_text symbols X = 32 ∷ symbol_word (symbol_in symbols X)

-- a string, and the terminal that comes behind it
abbrev pub such_text : List PrintedSymbol → List ℕ → PrintedSymbol → Bytes
such_text symbols Xs t =
    codes "such as" ++ (flat_map (symbol_text symbols) Xs ++ (codes ", then " ++ (symbol_word t ++ 10 ∷ [])))

-- what an item does on the terminal
abbrev pub deed_word : PrintedSymbol → PrintedItem → Bytes
deed_word t item =
    if nat_lt item.dot (length item.right) then codes " goes on with " ++ symbol_word t else codes " ends here"

abbrev pub deed_text : PrintedSymbol → PrintedItem → Bytes
deed_text t item = codes "  " ++ (item_text item ++ (deed_word t item ++ 10 ∷ []))

abbrev pub conflict_lines : Spec → List ℕ → PrintedConflict → Bytes
conflict_lines spec Xs c =
    such_text (printed_symbols spec) Xs c.terminal ++ (deed_text c.terminal c.first ++ deed_text c.terminal c.second)

-- the text tells of a fault that is this conflict: a sample of its prefix, and what each item does behind it
pub record TellsConflict (bytes : Bytes) (f : SpecFault) (c : PrintedConflict) (text : Bytes) : Type 0 where
  pub decls : List Decl
  pub spec : Spec
  pub has : HasSpec bytes decls spec
  pub sample : List ℕ
  pub sampled : IsSampled decls spec f sample
  pub is : text ≡ conflict_lines spec sample c

-- the name of a nonterminal behind a blank, at the first of its levels
abbrev pub name_text : List PrintedSymbol → ℕ → Bytes
name_text symbols X = let name = name_of (symbol_in symbols X) in
    if bytes_eq name (name_of (symbol_in symbols (X - 1))) then [] else 32 ∷ name

abbrev pub barren_text : Spec → List ℕ → Bytes
barren_text spec Xs = codes "without a sentence:" ++ (flat_map (name_text (symbols_named false spec)) Xs ++ 10 ∷ [])

-- the text tells all nonterminals of which no sentence comes
pub record TellsBarren (bytes text : Bytes) : Type 0 where
  pub decls : List Decl
  pub spec : Spec
  pub has : HasSpec bytes decls spec
  pub barren : List ℕ
  pub are : AreBarren (grammar_of spec) barren
  pub is : text ≡ barren_text spec barren
