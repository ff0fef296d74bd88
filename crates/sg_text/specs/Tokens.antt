-- The tokens of a text, or its first fault.
use Rattle.std.specs.Prelude.{ℕ, zero, suc, ◌+◌, ◌-◌, ◌^◌, Bool, true, false, not, ◌&&◌, ◌||◌, ◌==◌, nat_le, if◌then◌else◌, List, [], ◌∷◌, ◌++◌, take, drop, slice_index, Option, Some, None, option_map, Result, Ok, Err}
use Rattle.std.specs.List.{prefix_len}
use Rattle.sg_text.specs.declared.tokens.Kind.{Kind}
use Rattle.sg_text.specs.declared.tokens.Kind.TheVariants.{Name, Number, Text, Quoted, Symbol}
use Rattle.sg_text.specs.declared.tokens.Token.{Token}
use Rattle.sg_text.specs.declared.tokens.LexFault.{LexFault}
use Rattle.sg_text.specs.declared.tokens.LexFault.TheVariants.{Byte, Unclosed, LongNumber, LongName}
use Rattle.sg_text.specs.declared.forms.Form.{Form}
use Rattle.sg_text.specs.declared.forms.Form.TheVariants.{Gap, Found, Fault}
use Rattle.sg_text.specs.Bytes.{is_blank, is_string_byte, is_escape, is_quoted_byte, double_quote, single_quote, backslash, newline, star, slash}
use Rattle.sg_text.specs.Forms.{value_of, longest_form}

-- the bytes up to and with the first `*/`
abbrev pub comment_end : List ℕ → Option ℕ
comment_end [] = None
comment_end (b ∷ bs) =
    if b == star && slice_index bs 0 == slash then Some 2 else option_map suc (comment_end bs)

-- whether a text begins with `/*`
abbrev pub opens_comment : List ℕ → Bool
opens_comment bs = slice_index bs 0 == slash && slice_index bs 1 == star

-- a comment whose end, after the two bytes that open it, is this one
abbrev pub comment_form : ℕ → Option ℕ → Form
comment_form at (Some n) = Gap (n + 2)
comment_form at None = Fault (Unclosed at)

-- a comment goes from `/*` to the next `*/`
abbrev pub comment_at : ℕ → List ℕ → Form
comment_at at bs = comment_form at (comment_end (drop 2 bs))

-- how many bytes stand before the quote that ends a string, or before the end of the line; a backslash takes the next byte with it
abbrev pub string_len : (escaped : Bool) → List ℕ → ℕ
string_len escaped [] = 0
string_len true (b ∷ bs) = let rest = string_len false bs in if b == newline then 0 else suc rest
string_len false (b ∷ bs) =
    let rest = string_len (b == backslash) bs in if b == double_quote || b == newline then 0 else suc rest

-- how many bytes from the front on may stand in a string, each escape as a whole
abbrev pub text_len : (escaped : Bool) → List ℕ → ℕ
text_len escaped [] = 0
text_len true (b ∷ bs) = let rest = text_len false bs in if is_escape b then rest + 2 else 0
text_len false (b ∷ bs) =
    let rest = text_len (b == backslash) bs in
    if b == backslash then rest else (if is_string_byte b then rest + 1 else 0)

-- no string begins at the double quote before bs
abbrev pub string_fault : ℕ → List ℕ → LexFault
string_fault at bs =
    if slice_index bs (string_len false bs) == double_quote then Byte (at + 1 + text_len false bs) else Unclosed at

-- how many bytes stand before the next single quote, or before the end of the line
abbrev pub literal_len : List ℕ → ℕ
literal_len bs = prefix_len (λ b. not (b == single_quote || b == newline)) bs

-- how many bytes from the front on may stand in a quoted literal, which has at most 64
abbrev pub quoted_len : List ℕ → ℕ
quoted_len bs = prefix_len is_quoted_byte (take 64 bs)

-- no literal begins at the single quote before bs; of one without bytes its beginning is the place
abbrev pub quoted_fault : ℕ → List ℕ → LexFault
quoted_fault at bs =
    let n = literal_len bs in
    if slice_index bs n == single_quote
    then (if n == 0 then Byte at else Byte (at + 1 + quoted_len bs))
    else Unclosed at

-- no token form begins at bs
abbrev pub fault_at : ℕ → List ℕ → LexFault
fault_at at bs =
    if slice_index bs 0 == double_quote then string_fault at (drop 1 bs)
    else (if slice_index bs 0 == single_quote then quoted_fault at (drop 1 bs)
    else Byte at)

-- a token, if it is not too long
abbrev pub within_limits : ℕ → List ℕ → Kind → ℕ → Form
within_limits at bs Name n = if nat_le n 64 then Found Name n else Fault (LongName at)
within_limits at bs (Number v) n =
    if nat_le (value_of (take n bs)) (2 ^ 63 - 1) then Found (Number v) n else Fault (LongNumber at)
within_limits at bs Text n = Found Text n
within_limits at bs Quoted n = Found Quoted n
within_limits at bs (Symbol s) n = Found (Symbol s) n

-- what the longest token form at bs gives
abbrev pub longest_at : ℕ → List ℕ → Option (Kind × ℕ) → Form
longest_at at bs (Some (kind, n)) = within_limits at bs kind n
longest_at at bs None = Fault (fault_at at bs)

-- the longest token form that begins at bs, or why there is none
abbrev pub token_at : ℕ → List ℕ → Form
token_at at bs = longest_at at bs (longest_form bs)

-- what stands at the place `at`, where the text goes on with bs
unfoldable pub form_at : ℕ → List ℕ → Form
form_at at bs =
    if is_blank (slice_index bs 0) then Gap 1
    else (if opens_comment bs then comment_at at bs else token_at at bs)

-- the bytes that a form takes
abbrev pub form_len : Form → ℕ
form_len (Gap n) = n
form_len (Found kind n) = n
form_len (Fault f) = 1

-- what a form at this place and line gives: a token, none, or a fault
abbrev pub form_tokens : (at line : ℕ) → Form → Result (List Token) LexFault
form_tokens at line (Gap n) = Ok []
form_tokens at line (Found kind n) = Ok (record { kind = kind; from = at; to = at + n; line = line } ∷ [])
form_tokens at line (Fault f) = Err f

-- tokens and those after them, or the first fault
abbrev pub followed_by : Result (List Token) LexFault → Result (List Token) LexFault → Result (List Token) LexFault
followed_by (Ok ts) (Ok us) = Ok (ts ++ us)
followed_by (Ok ts) (Err f) = Err f
followed_by (Err f) us = Err f

-- the line after a byte
abbrev pub line_after : ℕ → ℕ → ℕ
line_after line b = if b == newline then suc line else line

-- the tokens from the place `at` on, of which the first `taken` bytes belong to the form before
abbrev pub tokens_from : (taken at line : ℕ) → List ℕ → Result (List Token) LexFault
tokens_from taken at line [] = Ok []
tokens_from (suc k) at line (b ∷ bs) = tokens_from k (suc at) (line_after line b) bs
tokens_from zero at line (b ∷ bs) =
    let form = form_at at (b ∷ bs) in
    followed_by (form_tokens at line form) (tokens_from (form_len form - 1) (suc at) (line_after line b) bs)

-- the tokens of a text, or its first fault
abbrev pub tokens_of : List ℕ → Result (List Token) LexFault
tokens_of bytes = tokens_from 0 0 1 bytes
