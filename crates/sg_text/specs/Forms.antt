-- The forms of tokens: which texts are a name, a number, a string, a quoted literal or a symbol.
use Rattle.std.specs.Prelude.{ℕ, zero, suc, ◌+◌, ◌*◌, ◌-◌, Bool, true, false, ◌&&◌, ◌==◌, nat_le, if◌then◌else◌, List, [], ◌∷◌, length, take, fold, slice_index, slice_range, Option, Some, None, option_map, pos}
use Rattle.std.specs.List.{list_all}
use Rattle.std.specs.Option.{option_or}
use Rattle.std.specs.Char.{is_ascii_digit}
use Rattle.sg_text.specs.declared.tokens.Kind.{Kind}
use Rattle.sg_text.specs.declared.tokens.Kind.TheVariants.{Name, Number, Text, Quoted, Symbol}
use Rattle.sg_text.specs.Bytes.{is_letter, is_name_byte, is_string_byte, is_escape, is_quoted_byte, double_quote, single_quote, backslash}
use Rattle.sg_text.specs.Symbols.{symbol_of}

-- a letter or `_`, then letters, digits and `_`
abbrev pub is_name : List ℕ → Bool
is_name [] = false
is_name (b ∷ bs) = is_letter b && list_all is_name_byte bs

-- digits
abbrev pub is_number : List ℕ → Bool
is_number [] = false
is_number (b ∷ bs) = list_all is_ascii_digit (b ∷ bs)

-- the rest of a string after its opening quote, or after a backslash in it
abbrev pub is_string_rest : (escaped : Bool) → List ℕ → Bool
is_string_rest escaped [] = false
is_string_rest true (b ∷ bs) = is_escape b && is_string_rest false bs
is_string_rest false (b ∷ bs) =
    if b == double_quote then nat_le (length bs) 0 else (is_string_byte b && is_string_rest (b == backslash) bs)

-- a double quote, bytes from 32 to 126 and escapes, a double quote
abbrev pub is_string : List ℕ → Bool
is_string [] = false
is_string (b ∷ bs) = b == double_quote && is_string_rest false bs

-- what stands between the first byte and the last
abbrev pub inner : List ℕ → List ℕ
inner w = slice_range w 1 (length w - 1)

-- a single quote, 1 to 64 bytes from 33 to 126 other than the quote, a single quote
abbrev pub is_quoted : List ℕ → Bool
is_quoted w =
    slice_index w 0 == single_quote && nat_le 3 (length w) && nat_le (length w) 66
    && slice_index w (length w - 1) == single_quote && list_all is_quoted_byte (inner w)

-- the value of digits
abbrev pub value_of : List ℕ → ℕ
value_of w = fold (λ v d. v * 10 + (d - 48)) 0 w

-- the form that a text has
unfoldable pub kind_of : List ℕ → Option Kind
kind_of w =
    if is_name w then Some Name
    else (if is_number w then Some (Number (pos (value_of w)))
    else (if is_string w then Some Text
    else (if is_quoted w then Some Quoted
    else option_map Symbol (symbol_of w))))

-- the longest of the fronts of at most n bytes that has a form: the form and the length
abbrev pub longest_within : ℕ → List ℕ → Option (Kind × ℕ)
longest_within zero bs = None
longest_within (suc n) bs =
    option_or (option_map (λ kind. (kind, suc n)) (kind_of (take (suc n) bs))) (longest_within n bs)

-- the longest token form that begins a text, and its length
unfoldable pub longest_form : List ℕ → Option (Kind × ℕ)
longest_form bs = longest_within (length bs) bs
