-- What helps for one fault besides its sentence.
use Rattle.std.specs.Prelude.{◌≡◌, []}
use Rattle.sg_kinds.specs.Values.{Bytes}
use Rattle.sg_kinds.specs.declared.fault.SpecFault.{SpecFault}
use Rattle.sg_kinds.specs.declared.fault.SpecFault.TheVariants.{TooLong, Byte, Unclosed, LongNumber, LongName, Syntax, Limit, Duplicate, UnknownName, ResultCount, RootCount, ListShape, OptionalShape, NoCompletion, RootInherits, TwiceBound, Arity, Mismatch, ShownType, NotDefinedHere, Twice, Missing, NoEnclosing, NoScheme, SchemeKids, SchemeText, PatternForm, EmptyLexeme, EntryTwice, EntryType, Unproductive, States, Conflict, Direct, Induced, Ordered, NoMemory}
use Rattle.sg_load.specs.Trees.{trees_in}
use Rattle.sg_place.specs.Places.{place_of}
use Rattle.sg_stops.specs.Stops.{TellsStopAt}
use Rattle.sg_witnesses.specs.Cycles.{TellsCycle}
use Rattle.sg_explain.specs.Named.{TellsBareIn, first_in, signatures_in, unknown_in}
use Rattle.sg_missing.specs.Firsts.{text_first}
use Rattle.sg_missing.specs.Lacks.{text_lacks}
use Rattle.sg_mismatches.specs.Mistypes.{text_mistypes}
use Rattle.sg_witnesses.specs.Samples.{TellsBarren, TellsConflict}

-- the text helps for this fault of the bytes: of a declaration without a reading it tells where reading stops and what
-- mends it, of a mismatch all mismatches with their types, of a missing equation all that operators lack, of a nonterminal
-- without a sentence all of them, of a conflict a sample and what is done behind it, of a cycle each step and its
-- reasons; of an unknown name what it means and which near ones are known, of a second one the first, of a wrong number
-- of parts the signature, of a reference to enclosing nodes a chain of operators without them
abbrev pub Helps : Bytes → SpecFault → Bytes → Type 0
Helps bytes TooLong text = text ≡ []
Helps bytes (Byte line) text = text ≡ []
Helps bytes (Unclosed line) text = text ≡ []
Helps bytes (LongNumber line) text = text ≡ []
Helps bytes (LongName line) text = text ≡ []
Helps bytes (Syntax line) text = TellsStopAt bytes (place_of bytes (Syntax line)) text
Helps bytes (Limit what count) text = text ≡ []
Helps bytes (Duplicate place name) text = text ≡ first_in place (trees_in bytes)
Helps bytes (UnknownName place name) text =
    text ≡ unknown_in bytes (place_of bytes (UnknownName place name)) place name (trees_in bytes)
Helps bytes (ResultCount place name) text = text ≡ []
Helps bytes (RootCount count) text = text ≡ []
Helps bytes (ListShape place name) text = text ≡ []
Helps bytes (OptionalShape place name) text = text ≡ []
Helps bytes (NoCompletion place name) text = text ≡ []
Helps bytes (RootInherits place name) text = text ≡ []
Helps bytes (TwiceBound place name) text = text ≡ []
Helps bytes (Arity place name) text = text ≡ signatures_in name (trees_in bytes)
Helps bytes (Mismatch place) text = text ≡ text_mistypes bytes
Helps bytes (ShownType place) text = text ≡ []
Helps bytes (NotDefinedHere place) text = text ≡ []
Helps bytes (Twice place) text = text ≡ text_first place (trees_in bytes)
Helps bytes (Missing place op) text = text ≡ text_lacks (trees_in bytes)
Helps bytes (NoEnclosing place) text = TellsBareIn bytes place text
Helps bytes (NoScheme place op) text = text ≡ []
Helps bytes (SchemeKids place op) text = text ≡ signatures_in op (trees_in bytes)
Helps bytes (SchemeText place) text = text ≡ []
Helps bytes (PatternForm place name) text = text ≡ []
Helps bytes (EmptyLexeme place name) text = text ≡ []
Helps bytes (EntryTwice place name) text = text ≡ first_in place (trees_in bytes)
Helps bytes (EntryType place name) text = text ≡ []
Helps bytes (Unproductive place name) text = TellsBarren bytes text
Helps bytes States text = text ≡ []
Helps bytes (Conflict place conflict) text = TellsConflict bytes (Conflict place conflict) conflict text
Helps bytes (Direct place op cycle) text = TellsCycle bytes (Direct place op cycle) text
Helps bytes (Induced place op cycle) text = TellsCycle bytes (Induced place op cycle) text
Helps bytes (Ordered place op cycle) text = TellsCycle bytes (Ordered place op cycle) text
Helps bytes NoMemory text = text ≡ []
