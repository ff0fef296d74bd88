-- One sentence for each code, of what helps.
use Rattle.std.specs.Prelude.{[], ◌∷◌, ◌++◌, codes}
use Rattle.sg_kinds.specs.Values.{Bytes}
use Rattle.sg_kinds.specs.declared.fault.SpecFault.{SpecFault}
use Rattle.sg_kinds.specs.declared.fault.SpecFault.TheVariants.{TooLong, Byte, Unclosed, LongNumber, LongName, Syntax, Limit, Duplicate, UnknownName, ResultCount, RootCount, ListShape, OptionalShape, NoCompletion, RootInherits, TwiceBound, Arity, Mismatch, ShownType, NotDefinedHere, Twice, Missing, NoEnclosing, NoScheme, SchemeKids, SchemeText, PatternForm, EmptyLexeme, EntryTwice, EntryType, Unproductive, States, Conflict, Direct, Induced, Ordered, NoMemory}

abbrev pub sentence : SpecFault → Bytes
sentence TooLong = codes "the text is over 1,048,576 bytes: take out what is generated and not needed."
sentence (Byte line) = codes "no token begins or goes on so here; a string or comment that was closed too early may stand above."
sentence (Unclosed line) = codes "close what begins here: a string or literal on its line, a comment with `*/`."
sentence (LongNumber line) = codes "a number is at most 9223372036854775807."
sentence (LongName line) = codes "a name has at most 64 bytes: shorten it."
sentence (Syntax line) = codes "no form of declaration fits what begins here: look for a missing `;` or bracket, or a reserved word as a name."
sentence (Limit what count) = codes "there is too much of it: put some together in a phylum or a value of their own."
sentence (Duplicate place name) = codes "this name is defined already: rename one of the two."
sentence (UnknownName place name) = codes "nothing of this name is known here: declare it, or name what is declared, and number what occurs more than once."
sentence (ResultCount place name) = codes "a nonterminal has exactly one synthesized attribute, its result, and no inherited one."
sentence (RootCount count) = codes "write `root`, the phylum of whole documents and `;`, once."
sentence (ListShape place name) = codes "a list has two operators in this order: one without arguments, then one over an element and the list."
sentence (OptionalShape place name) = codes "put an operator without arguments first, and another one behind it."
sentence (NoCompletion place name) = codes "let the first operator of each phylum need nothing of the same phylum; make a list optional, or its element finite."
sentence (RootInherits place name) = codes "nothing above the root defines an inherited attribute: put a phylum over it whose operator does."
sentence (TwiceBound place name) = codes "a variable of this name is visible here already: rename one of the two."
sentence (Arity place name) = codes "write as many parts as are declared; in a pattern `*` stands for a part that does not matter."
sentence (Mismatch place) = codes "another type is wanted here; all branches and cases go by the first of them."
sentence (ShownType place) = codes "only texts, numbers, truth values and lexemes are shown: make a text of it in a local."
sentence (NotDefinedHere place) = codes "an operator defines synthesized attributes of its left side, inherited ones of its arguments, and its locals."
sentence (Twice place) = codes "another equation of this operator defines the same: take one out."
sentence (Missing place op) = codes "an operator defines each synthesized attribute of its left side, each inherited one of its arguments, and its locals."
sentence (NoEnclosing place) = codes "not everything that may stand above here has what is named."
sentence (NoScheme place op) = codes "an operator that may stand in a document needs a scheme."
sentence (SchemeKids place op) = codes "a scheme has one `@`, `^` or `..` for each argument in their order; a separator stands once, in a list's second operator."
sentence (SchemeText place) = codes "behind `%` stands `n`, `t`, `b` or `%`: write `%%` for a percent sign."
sentence (PatternForm place name) = codes "this text is no pattern: put a backslash, written twice, before a sign that is meant itself."
sentence (EmptyLexeme place name) = codes "this pattern matches the empty text: write `+` for `*`, or take out a `?`."
sentence (EntryTwice place name) = codes "a phylum has one entry: make one nonterminal of the two."
sentence (EntryType place name) = codes "let the nonterminal make a term of this phylum."
sentence (Unproductive place name) = codes "each production of this nonterminal needs one that never ends: add a production that ends."
sentence States = codes "the input grammar has over 65,536 states: let a token in front say what follows."
sentence (Conflict place conflict) = codes "read the prefix as what was typed, the token as what comes, and each dot as how far its production has come."
sentence (Direct place op cycle) = codes "each vertex is needed by the next, and the last by the first: some equation must do without."
sentence (Induced place op cycle) = codes "the cycle leads through other operators: some equation on its way must do without."
sentence (Ordered place op cycle) = codes "no one order of the attributes of a phylum serves all its uses: let the later of two depend on the earlier one."
sentence NoMemory = []

-- the sentence as a line
abbrev pub advice : SpecFault → Bytes
advice f = codes "help: " ++ (sentence f ++ 10 ∷ [])
