-- All mismatches of a text with their types, and how they are told.
use Rattle.std.specs.Prelude.{ℕ, List, [], ◌∷◌, ◌++◌, flat_map, Option, Some, None, Result, Ok, codes}
use Rattle.std.specs.Fmt.{decimal}
use Rattle.sg_kinds.specs.Specification.{phylum_name}
use Rattle.sg_kinds.specs.Values.{Bytes}
use Rattle.sg_kinds.specs.declared.fault.Position.{Position}
use Rattle.sg_kinds.specs.declared.fault.SpecFault.{SpecFault}
use Rattle.sg_kinds.specs.declared.spec.Phylum.{Phylum}
use Rattle.sg_text.specs.Tokens.{tokens_of}
use Rattle.sg_text.specs.declared.tokens.LexFault.{LexFault}
use Rattle.sg_text.specs.declared.tokens.Token.{Token}
use Rattle.sg_ast.specs.Declarations.{Decl}
use Rattle.sg_remote.specs.Longer.{names_of}
use Rattle.sg_mistyped.specs.Mistyped.{mistypes}
use Rattle.sg_mistyped.specs.declared.mistyped.Mistyped.{Mistyped}
use Rattle.sg_mistyped.specs.declared.mistyped.Wanted.{Wanted}
use Rattle.sg_mistyped.specs.declared.mistyped.Wanted.TheVariants.{One, AnyList, Like, Any, Unknown}
use Rattle.sg_load.specs.Trees.{trees_in}
use Rattle.sg_place.specs.Places.{begin_of, within}
use Rattle.sg_place.specs.Shown.{column_at}

-- what compares with a type
abbrev pub like_words : List Phylum → ℕ → Bytes
like_words phyla p = codes "what compares with " ++ phylum_name phyla p

-- what is wanted, in words
abbrev pub wanted_words : List Phylum → Wanted → Bytes
wanted_words phyla (One p) = phylum_name phyla p
wanted_words phyla AnyList = codes "a list"
wanted_words phyla (Like p) = like_words phyla p
wanted_words phyla Any = codes "a type"
wanted_words phyla Unknown = codes "an unknown type"

-- what is there
abbrev pub found_words : List Phylum → Option ℕ → Bytes
found_words phyla None = codes "none"
found_words phyla (Some p) = phylum_name phyla p

-- the line of a position, and the column where its token begins
abbrev pub spot_words : Bytes → Position → Option ℕ → Bytes
spot_words bytes p None = decimal p.line
spot_words bytes p (Some at) = decimal p.line ++ 58 ∷ decimal (column_at bytes at)

-- with these a line begins; behind them stands what is wanted and what is there
abbrev pub place_text : Bytes → Position → Option ℕ → Bytes
place_text bytes p at = codes "  " ++ spot_words bytes p at

abbrev pub types_text : List Phylum → Mistyped → Bytes
types_text phyla m = codes ": " ++ (wanted_words phyla m.wanted
    ++ (codes " is wanted, " ++ (found_words phyla m.found ++ (codes " is there" ++ 10 ∷ []))))

-- a line for a mismatch
abbrev pub mistyped_text : Bytes → List Token → List Phylum → Mistyped → Bytes
mistyped_text bytes ts phyla m =
    place_text bytes m.place (within bytes (begin_of ts m.place)) ++ types_text phyla m

-- and for each of all these of a text with tokens and declarations
abbrev pub mistypes_with : Bytes → Result (List Token) LexFault → Result (List Decl) SpecFault → Bytes
mistypes_with bytes (Ok ts) (Ok ds) = let t = names_of ds in flat_map (mistyped_text bytes ts t.phyla) (mistypes t ds)
mistypes_with bytes ts ds = []

abbrev pub text_mistypes : Bytes → Bytes
text_mistypes bytes = mistypes_with bytes (tokens_of bytes) (trees_in bytes)
