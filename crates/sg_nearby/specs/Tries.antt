-- Whether the names of a text up to a token have a meaning.
use Rattle.std.specs.Prelude.{ℕ, ◌+◌, Bool, true, false, if◌then◌else◌, nat_lt, List, ◌++◌, length, take, drop, Option, Some, None, Result, Ok, Err}
use Rattle.sg_kinds.specs.Values.{Bytes}
use Rattle.sg_kinds.specs.declared.fault.SpecFault.{SpecFault}
use Rattle.sg_kinds.specs.declared.fault.SpecFault.TheVariants.{UnknownName}
use Rattle.sg_text.specs.Tokens.{tokens_of}
use Rattle.sg_text.specs.declared.tokens.LexFault.{LexFault}
use Rattle.sg_text.specs.declared.tokens.Token.{Token}
use Rattle.sg_ast.specs.Declarations.{Decl}
use Rattle.sg_ast.specs.Spells.{declarations}
use Rattle.sg_names.specs.Names.{names_of}
use Rattle.sg_names.specs.UnknownName.{unknown_name}
use Rattle.sg_reader.specs.EachRead.{read_from}

-- the first unknown name stands behind a token
abbrev pub is_known_before : ℕ → Option SpecFault → Bool
is_known_before token None = true
is_known_before token (Some (UnknownName place name)) = nat_lt token place.token
is_known_before token (Some f) = false

-- the names of declarations up to a token have a meaning
abbrev pub knows : ℕ → List Decl → Bool
knows token ds = is_known_before token (unknown_name (names_of ds) ds)

abbrev pub knows_read : ℕ → Result (List Decl) (ℕ × ℕ) → Bool
knows_read token (Ok ds) = knows token ds
knows_read token (Err e) = false

abbrev pub knows_tokens : Bytes → ℕ → Result (List Token) LexFault → Bool
knows_tokens text token (Ok ts) = knows_read token (read_from 0 (declarations text ts))
knows_tokens text token (Err e) = false

-- the text is not too long, has declarations, and their names up to a token have a meaning
unfoldable pub knows_text : ℕ → Bytes → Bool
knows_text token text = if nat_lt 1048576 (length text) then false else knows_tokens text token (tokens_of text)

-- the text with a name in place of so many bytes from a place on
abbrev pub renamed : Bytes → ℕ → ℕ → Bytes → Bytes
renamed text at count name = take at text ++ (name ++ drop (at + count) text)
