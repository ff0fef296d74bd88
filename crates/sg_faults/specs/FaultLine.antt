-- The line as which a static fault is printed.
use Rattle.std.specs.Prelude.{ℕ, List, [], ◌∷◌, ◌++◌, take, drop, flat_map, Option, Some, None, codes}
use Rattle.std.specs.Fmt.{decimal}
use Rattle.sg_kinds.specs.Values.{Bytes}
use Rattle.sg_kinds.specs.declared.fault.Position.{Position}
use Rattle.sg_kinds.specs.declared.fault.Counted.{Counted}
use Rattle.sg_kinds.specs.declared.fault.Counted.TheVariants.{Phyla, Operators, Arity as Arguments, Attributes, Locals, Functions, Parameters, Transforms, Schemes, Productions, Symbols, Views}
use Rattle.sg_kinds.specs.declared.fault.PrintedSymbol.{PrintedSymbol}
use Rattle.sg_kinds.specs.declared.fault.PrintedSymbol.TheVariants.{End, Marker, Literal, Name}
use Rattle.sg_kinds.specs.declared.fault.PrintedItem.{PrintedItem}
use Rattle.sg_kinds.specs.declared.fault.PrintedConflict.{PrintedConflict}
use Rattle.sg_kinds.specs.declared.fault.PrintedVertex.{PrintedVertex}
use Rattle.sg_kinds.specs.declared.fault.PrintedVertex.TheVariants.{Own, Argument, Local}
use Rattle.sg_kinds.specs.declared.fault.SpecFault.{SpecFault}
use Rattle.sg_kinds.specs.declared.fault.SpecFault.TheVariants.{TooLong, Byte, Unclosed, LongNumber, LongName, Syntax, Limit, Duplicate, UnknownName, ResultCount, RootCount, ListShape, OptionalShape, NoCompletion, RootInherits, TwiceBound, Arity, Mismatch, ShownType, NotDefinedHere, Twice, Missing, NoEnclosing, NoScheme, SchemeKids, SchemeText, PatternForm, EmptyLexeme, EntryTwice, EntryType, Unproductive, States, Conflict, Direct, Induced, Ordered, NoMemory}

-- words, each after a space
abbrev pub spaced : {X : Type 0} → (X → Bytes) → List X → Bytes
spaced word xs = flat_map (λ x. 32 ∷ word x) xs

-- what is counted
abbrev pub counted_word : Counted → Bytes
counted_word Phyla = codes "phyla"
counted_word Operators = codes "operators"
counted_word Arguments = codes "arity"
counted_word Attributes = codes "attributes"
counted_word Locals = codes "locals"
counted_word Functions = codes "functions"
counted_word Parameters = codes "parameters"
counted_word Transforms = codes "transforms"
counted_word Schemes = codes "schemes"
counted_word Productions = codes "productions"
counted_word Symbols = codes "symbols"
counted_word Views = codes "views"

-- a symbol: the end, the marker of an entry's phylum, a literal in its quotes, or a name
abbrev pub symbol_word : PrintedSymbol → Bytes
symbol_word End = codes "end"
symbol_word (Marker phylum) = 126 ∷ phylum
symbol_word (Literal text) = 39 ∷ (text ++ 39 ∷ [])
symbol_word (Name name) = name

-- the left side of an item, `start` where it is a start production's
abbrev pub left_word : Option Bytes → Bytes
left_word None = codes "start"
left_word (Some name) = name

-- an item, with a `.` at the dot
abbrev pub item_text : PrintedItem → Bytes
item_text item = left_word item.left ++ (codes " ::=" ++ (spaced symbol_word (take item.dot item.right) ++ (codes " ." ++ spaced symbol_word (drop item.dot item.right))))

-- the prefix, the terminal and the two items of a conflict
abbrev pub conflict_text : PrintedConflict → Bytes
conflict_text c = codes "after" ++ (spaced symbol_word c.prefix ++ (codes " on " ++ (symbol_word c.terminal ++ (codes ": " ++ (item_text c.first ++ (codes " | " ++ item_text c.second))))))

-- a vertex of a cycle
abbrev pub vertex_word : PrintedVertex → Bytes
vertex_word (Own attr) = codes "$$." ++ attr
vertex_word (Argument phylum k attr) = phylum ++ (36 ∷ (decimal k ++ 46 ∷ attr))
vertex_word (Local name) = name

-- a line by its number, and what stands behind it
abbrev pub line_text : ℕ → Bytes
line_text line = codes " line " ++ decimal line

abbrev pub named_text : Position → Bytes → Bytes
named_text place name = line_text place.line ++ 32 ∷ name

abbrev pub cycle_text : Position → Bytes → List PrintedVertex → Bytes
cycle_text place op cycle = named_text place op ++ (58 ∷ spaced vertex_word cycle)

-- the code of a fault
abbrev pub code_of : SpecFault → Bytes
code_of TooLong = codes "TooLong"
code_of (Byte line) = codes "Byte"
code_of (Unclosed line) = codes "Unclosed"
code_of (LongNumber line) = codes "LongNumber"
code_of (LongName line) = codes "LongName"
code_of (Syntax line) = codes "Syntax"
code_of (Limit what count) = codes "Limit"
code_of (Duplicate place name) = codes "Duplicate"
code_of (UnknownName place name) = codes "UnknownName"
code_of (ResultCount place name) = codes "ResultCount"
code_of (RootCount count) = codes "RootCount"
code_of (ListShape place name) = codes "ListShape"
code_of (OptionalShape place name) = codes "OptionalShape"
code_of (NoCompletion place name) = codes "NoCompletion"
code_of (RootInherits place name) = codes "RootInherits"
code_of (TwiceBound place name) = codes "TwiceBound"
code_of (Arity place name) = codes "Arity"
code_of (Mismatch place) = codes "Mismatch"
code_of (ShownType place) = codes "ShownType"
code_of (NotDefinedHere place) = codes "NotDefinedHere"
code_of (Twice place) = codes "Twice"
code_of (Missing place op) = codes "Missing"
code_of (NoEnclosing place) = codes "NoEnclosing"
code_of (NoScheme place op) = codes "NoScheme"
code_of (SchemeKids place op) = codes "SchemeKids"
code_of (SchemeText place) = codes "SchemeText"
code_of (PatternForm place name) = codes "PatternForm"
code_of (EmptyLexeme place name) = codes "EmptyLexeme"
code_of (EntryTwice place name) = codes "EntryTwice"
code_of (EntryType place name) = codes "EntryType"
code_of (Unproductive place name) = codes "Unproductive"
code_of States = codes "States"
code_of (Conflict place conflict) = codes "Conflict"
code_of (Direct place op cycle) = codes "Direct"
code_of (Induced place op cycle) = codes "Induced"
code_of (Ordered place op cycle) = codes "Ordered"
code_of NoMemory = codes "NoMemory"

-- what is told of a fault besides its code
abbrev pub detail_of : SpecFault → Bytes
detail_of TooLong = []
detail_of (Byte line) = line_text line
detail_of (Unclosed line) = line_text line
detail_of (LongNumber line) = line_text line
detail_of (LongName line) = line_text line
detail_of (Syntax line) = line_text line
detail_of (Limit what count) = 32 ∷ (counted_word what ++ 32 ∷ decimal count)
detail_of (Duplicate place name) = named_text place name
detail_of (UnknownName place name) = named_text place name
detail_of (ResultCount place name) = named_text place name
detail_of (RootCount count) = 32 ∷ decimal count
detail_of (ListShape place name) = named_text place name
detail_of (OptionalShape place name) = named_text place name
detail_of (NoCompletion place name) = named_text place name
detail_of (RootInherits place name) = named_text place name
detail_of (TwiceBound place name) = named_text place name
detail_of (Arity place name) = named_text place name
detail_of (Mismatch place) = line_text place.line
detail_of (ShownType place) = line_text place.line
detail_of (NotDefinedHere place) = line_text place.line
detail_of (Twice place) = line_text place.line
detail_of (Missing place op) = named_text place op
detail_of (NoEnclosing place) = line_text place.line
detail_of (NoScheme place op) = named_text place op
detail_of (SchemeKids place op) = named_text place op
detail_of (SchemeText place) = line_text place.line
detail_of (PatternForm place name) = named_text place name
detail_of (EmptyLexeme place name) = named_text place name
detail_of (EntryTwice place name) = named_text place name
detail_of (EntryType place name) = named_text place name
detail_of (Unproductive place name) = named_text place name
detail_of States = []
detail_of (Conflict place conflict) = line_text place.line ++ 32 ∷ conflict_text conflict
detail_of (Direct place op cycle) = cycle_text place op cycle
detail_of (Induced place op cycle) = cycle_text place op cycle
detail_of (Ordered place op cycle) = cycle_text place op cycle
detail_of NoMemory = []

-- the word `fault`, the code, the detail and a newline
unfoldable pub fault_line : SpecFault → Bytes
fault_line fault = codes "fault " ++ (code_of fault ++ (detail_of fault ++ 10 ∷ []))
