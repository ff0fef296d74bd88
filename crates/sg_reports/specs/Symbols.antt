-- The symbols of the grammar as they are printed.
use Rattle.std.specs.Prelude.{ℕ, suc, ◌+◌, Bool, true, false, ◌&&◌, if◌then◌else◌, nat_eq, nat_lt, List, [], ◌∷◌, ◌++◌, map, slice_index_or}
use Rattle.std.specs.Fmt.{decimal}
use Rattle.sg_kinds.specs.Instances.{below}
use Rattle.sg_kinds.specs.Values.{Bytes}
use Rattle.sg_kinds.specs.Specification.{is_lexical_shape, phylum_name}
use Rattle.sg_kinds.specs.declared.spec.Phylum.{Phylum}
use Rattle.sg_kinds.specs.declared.spec.Production.{Production}
use Rattle.sg_kinds.specs.declared.spec.Entry.{Entry}
use Rattle.sg_kinds.specs.declared.spec.Spec.{Spec}
use Rattle.sg_kinds.specs.declared.fault.PrintedSymbol.{PrintedSymbol}
use Rattle.sg_kinds.specs.declared.fault.PrintedSymbol.TheVariants.{End, Marker, Literal, Name}
use Rattle.sg_patterns.specs.Lexemes.{literals_of}
use Rattle.sg_prec.specs.Levels.{height}

-- the marker of an entry has its phylum's name
abbrev pub marker_of : List Phylum → Entry → PrintedSymbol
marker_of phyla e = Marker (phylum_name phyla e.phylum)

-- the lexeme phyla, which have the numbers of their lexemes in this order
abbrev pub lexeme_symbols : List Phylum → List PrintedSymbol
lexeme_symbols [] = []
lexeme_symbols (x ∷ xs) = let rest = lexeme_symbols xs in if is_lexical_shape x.shape then Name x.name ∷ rest else rest

-- how a level of a nonterminal is printed, by the number of its last one: where levels are told, and there are several,
-- with its number, counted from 1; else by the nonterminal's own name
unfoldable pub level_name : Bool → Bytes → ℕ → ℕ → Bytes
level_name told name last i = if told && nat_lt 0 last then name ++ 47 ∷ decimal (i + 1) else name

-- the levels of a nonterminal
unfoldable pub level_symbols : Bool → Bytes → ℕ → List PrintedSymbol
level_symbols told name last = map (λ i. Name (level_name told name last i)) (below (suc last))

-- those of the nonterminals from number n on, each by its first production and its last level
abbrev pub nonterminal_symbols : Bool → (ℕ → ℕ) → ℕ → List Production → List PrintedSymbol
nonterminal_symbols told last n [] = []
nonterminal_symbols told last n (r ∷ rs) =
    let next = level_symbols told r.name (last n) ++ nonterminal_symbols told last (suc n) rs in
    let rest = nonterminal_symbols told last n rs in
    if nat_eq r.left n then next else rest

-- all symbols in the order of their numbers, levels told or not
abbrev pub symbols_named : Bool → Spec → List PrintedSymbol
symbols_named told spec =
    End ∷ []
    ++ map (marker_of spec.phyla) spec.entries
    ++ map Literal (literals_of spec.productions)
    ++ lexeme_symbols spec.phyla
    ++ nonterminal_symbols told (height spec.levels spec.productions) 0 spec.productions

abbrev pub printed_symbols : Spec → List PrintedSymbol
printed_symbols spec = symbols_named true spec

abbrev pub symbol_in : List PrintedSymbol → ℕ → PrintedSymbol
symbol_in symbols X = slice_index_or symbols X End

-- the name of a symbol that has one
abbrev pub name_of : PrintedSymbol → Bytes
name_of (Name name) = name
name_of symbol = []

-- the name of a symbol by its number, and of a level the nonterminal's own
abbrev pub written_name : Spec → ℕ → Bytes
written_name spec X = name_of (symbol_in (symbols_named false spec) X)
