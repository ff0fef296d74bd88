-- The byte at which a fault stands in its text.
use Rattle.std.specs.Prelude.{ℕ, zero, suc, ◌≤◌, ◌==◌, nat_lt, min, if◌then◌else◌, List, length, drop, slice_get, Option, Some, None, option_and_then, Result, Ok, Err}
use Rattle.std.specs.Option.{option_map}
use Rattle.sg_kinds.specs.Values.{Bytes}
use Rattle.sg_kinds.specs.declared.fault.Position.{Position}
use Rattle.sg_kinds.specs.declared.fault.SpecFault.{SpecFault}
use Rattle.sg_kinds.specs.declared.fault.SpecFault.TheVariants.{TooLong, Byte, Unclosed, LongNumber, LongName, Syntax, Limit, Duplicate, UnknownName, ResultCount, RootCount, ListShape, OptionalShape, NoCompletion, RootInherits, TwiceBound, Arity, Mismatch, ShownType, NotDefinedHere, Twice, Missing, NoEnclosing, NoScheme, SchemeKids, SchemeText, PatternForm, EmptyLexeme, EntryTwice, EntryType, Unproductive, States, Conflict, Direct, Induced, Ordered, NoMemory}
use Rattle.sg_text.specs.declared.tokens.Token.{Token}
use Rattle.sg_text.specs.declared.tokens.LexFault.{LexFault}
use Rattle.sg_text.specs.declared.tokens.LexFault.TheVariants as token
use Rattle.sg_text.specs.Tokens.{tokens_of}
use Rattle.sg_text.specs.Cut.{declaration_len}
use Rattle.sg_ast.specs.Declarations.{Decl}
use Rattle.sg_ast.specs.Spells.{declarations}
use Rattle.sg_reader.specs.EachRead.{read_from}
use Rattle.sg_place.specs.declared.place.Spot.{Spot}
use Rattle.sg_place.specs.declared.place.Spot.TheVariants.{Nowhere, Unread, At}

-- where a fault of a text with tokens stands: nowhere, at its first declaration without a reading, or at a token
abbrev pub spot_of : SpecFault → Spot
spot_of TooLong = Nowhere
spot_of (Byte line) = Nowhere
spot_of (Unclosed line) = Nowhere
spot_of (LongNumber line) = Nowhere
spot_of (LongName line) = Nowhere
spot_of (Syntax line) = Unread
spot_of (Limit what count) = Nowhere
spot_of (Duplicate place name) = At place
spot_of (UnknownName place name) = At place
spot_of (ResultCount place name) = At place
spot_of (RootCount count) = Nowhere
spot_of (ListShape place name) = At place
spot_of (OptionalShape place name) = At place
spot_of (NoCompletion place name) = At place
spot_of (RootInherits place name) = At place
spot_of (TwiceBound place name) = At place
spot_of (Arity place name) = At place
spot_of (Mismatch place) = At place
spot_of (ShownType place) = At place
spot_of (NotDefinedHere place) = At place
spot_of (Twice place) = At place
spot_of (Missing place op) = At place
spot_of (NoEnclosing place) = At place
spot_of (NoScheme place op) = At place
spot_of (SchemeKids place op) = At place
spot_of (SchemeText place) = At place
spot_of (PatternForm place name) = At place
spot_of (EmptyLexeme place name) = At place
spot_of (EntryTwice place name) = At place
spot_of (EntryType place name) = At place
spot_of (Unproductive place name) = At place
spot_of States = Nowhere
spot_of (Conflict place conflict) = At place
spot_of (Direct place op cycle) = At place
spot_of (Induced place op cycle) = At place
spot_of (Ordered place op cycle) = At place
spot_of NoMemory = Nowhere

-- where a text has no tokens: the place of the fault
abbrev pub token_fault_place : LexFault → Option ℕ
token_fault_place (token.Byte at) = Some at
token_fault_place (token.Unclosed at) = Some at
token_fault_place (token.LongNumber at) = Some at
token_fault_place (token.LongName at) = Some at
token_fault_place token.NoMemory = None

-- where a token of this line begins; a place that is none has another line than its token
abbrev pub on_line : ℕ → Token → Option ℕ
on_line line t = if t.line == line then Some t.from else None

-- where the token of a position begins
abbrev pub begin_of : List Token → Position → Option ℕ
begin_of ts p = option_and_then (on_line p.line) (slice_get ts p.token)

-- the tokens behind so many declarations
abbrev pub behind : ℕ → List Token → List Token
behind zero ts = ts
behind (suc n) ts = behind n (drop (declaration_len 0 ts) ts)

-- where the first of these tokens begins
abbrev pub first_begin : List Token → Option ℕ
first_begin ts = option_map (λ t. t.from) (slice_get ts 0)

-- where the first declaration without a reading begins
abbrev pub unread_begin : List Token → Result (List Decl) (ℕ × ℕ) → Option ℕ
unread_begin ts (Ok ds) = None
unread_begin ts (Err e) = first_begin (behind e.0 ts)

abbrev pub spot_begin : Bytes → List Token → Spot → Option ℕ
spot_begin bytes ts Nowhere = None
spot_begin bytes ts Unread = unread_begin ts (read_from 0 (declarations bytes ts))
spot_begin bytes ts (At p) = begin_of ts p

abbrev pub place_with : Bytes → Result (List Token) LexFault → SpecFault → Option ℕ
place_with bytes (Ok ts) f = spot_begin bytes ts (spot_of f)
place_with bytes (Err e) f = token_fault_place e

-- a place, at most the text's end
abbrev pub within : Bytes → Option ℕ → Option ℕ
within bytes = option_map (λ at. min at (length bytes))

-- the byte at which a fault of the text stands; a text that is too long, a limit, a number of roots and too many states
-- have none
unfoldable pub place_of : Bytes → SpecFault → Option ℕ
place_of bytes f = if nat_lt 1048576 (length bytes) then None else within bytes (place_with bytes (tokens_of bytes) f)

-- a place of a text that is not too long
pub record IsPlaceIn (bytes : Bytes) (at : ℕ) : Type 0 where
  pub within : at ≤ length bytes
  pub short : length bytes ≤ 1048576
