-- What a string stands for is a text, and a word is a name that is not reserved.
use Rattle.std.proofs.Common.{◌≡◌, ℕ, zero, suc, ◌+◌, ◌-◌, ◌<◌, ◌≤◌, Bool, true, false, cond, ◌&&◌, List, [], ◌∷◌, length, take, Option, Some, None, refl, arith}
use Rattle.std.specs.Prelude.{◌==◌, nat_le, ℤ, option_map, ⊤}
use Rattle.std.specs.Option.{option_map_or}
use Rattle.std.proofs.lemmas.Bool.{and_parts, and_from}
use Rattle.std.proofs.lemmas.Bool.Decides.{nat_tests}
use Rattle.sg_text.specs.declared.tokens.Kind.{Kind}
use Rattle.sg_text.specs.declared.tokens.Kind.TheVariants.{Name, Number, Text, Quoted, Symbol}
use Rattle.sg_text.specs.declared.tokens.Token.{Token}
use Rattle.sg_text.specs.declared.symbols.Symbol as symbols
use Rattle.sg_text.specs.declared.words.Keyword.{Keyword}
use Rattle.sg_text.specs.Bytes as text
use Rattle.sg_text.specs.Bytes.{is_escape, double_quote, backslash}
use Rattle.sg_text.specs.Forms.{is_name, is_number, is_string_rest, is_string, is_quoted, inner, kind_of}
use Rattle.sg_text.specs.Strings.{escape_value, unescaped_after, unescaped}
use Rattle.sg_text.specs.Symbols.{symbol_of}
use Rattle.sg_text.specs.Words.{keyword_of}
use Rattle.sg_text.specs.Lexemes.{Lexeme, Word, Reserved, String, meaning_of, token_bytes, lexeme_of}
use Rattle.sg_text.specs.Placed.{IsWithinLimits, IsTokenOf}
use Rattle.sg_kinds.specs.Values.{is_text_byte, is_text}
use Rattle.sg_load.specs.FreeNames.{IsFreeName}

-- a lexeme that is a text if it is a string, and a name that is not reserved if it is a word
abbrev pub HasForm : Lexeme → Type 0
HasForm (String s) = is_text s ≡ true
HasForm (Word w) = IsFreeName w
HasForm l = ⊤

escape_text : (b : ℕ) → is_escape b ≡ true → is_text_byte (escape_value b) ≡ true
escape_text b is = grind (arith, nat_tests)

byte_text : (b : ℕ) → text.is_string_byte b ≡ true → is_text_byte b ≡ true
byte_text b is = grind (arith, nat_tests)

-- no quote stands before the last byte
open_rest : (q x : Bool) (n : ℕ) → 0 < n → cond q (nat_le n 0) x ≡ true → x ≡ true
open_rest true x n some is = grind (arith, nat_tests)
open_rest false x n some is = is

-- a byte that may be a backslash, and what follows it
byte_and : (t : Bool) (b : ℕ) (rest : List ℕ) → is_text_byte b ≡ true → is_text rest ≡ true → is_text (cond t rest (b ∷ rest)) ≡ true
byte_and true b rest is texts = texts
byte_and false b rest is texts = and_from (is_text_byte b) (is_text rest) is texts

-- the bytes before the quote that ends a string
rest_text : (e : Bool) (bs : List ℕ) (k : ℕ) → k + 1 ≡ length bs → is_string_rest e bs ≡ true → is_text (unescaped_after e (take k bs)) ≡ true
rest_text e [] k len is = absurd (omega arith)
rest_text true (b ∷ bs) zero len is = refl
rest_text false (b ∷ bs) zero len is = refl
rest_text true (b ∷ bs) (suc k) len is =
    let parts = and_parts (is_escape b) (is_string_rest false bs) is in
    and_from (is_text_byte (escape_value b)) (is_text (unescaped_after false (take k bs))) (escape_text b parts.0) (rest_text false bs k (omega arith) parts.1)
rest_text false (b ∷ bs) (suc k) len is =
    let more = open_rest (b == double_quote) (text.is_string_byte b && is_string_rest (b == backslash) bs) (length bs) (omega arith) is in
    let parts = and_parts (text.is_string_byte b) (is_string_rest (b == backslash) bs) more in
    byte_and (b == backslash) b (unescaped_after (b == backslash) (take k bs)) (byte_text b parts.0) (rest_text (b == backslash) bs k (omega arith) parts.1)

-- what stands between the quotes of a string
pub string_text : (w : List ℕ) → is_string w ≡ true → is_text (unescaped (inner w)) ≡ true
string_text [] is = absurd (cc)
string_text (b ∷ []) is = let parts = and_parts (b == double_quote) (is_string_rest false []) is in absurd (cc)
string_text (b ∷ c ∷ bs) is =
    let parts = and_parts (b == double_quote) (is_string_rest false (c ∷ bs)) is in
    rest_text false (c ∷ bs) (length (b ∷ c ∷ bs) - 1 - 1) (omega arith) parts.1

-- the form of strings is that of no other text
is_text_form : (n d s q : Bool) (v : ℤ) (o : Option symbols.Symbol) → cond n (Some Name) (cond d (Some (Number v)) (cond s (Some Text) (cond q (Some Quoted) (option_map Symbol o)))) ≡ Some Text → s ≡ true
is_text_form true d s q v o e = absurd (cc)
is_text_form false true s q v o e = absurd (cc)
is_text_form false false true q v o e = refl
is_text_form false false false true v o e = absurd (cc)
is_text_form false false false false v None e = absurd (cc)
is_text_form false false false false v (Some s) e = absurd (cc)

string_form : (w : List ℕ) → kind_of w ≡ Some Text → is_string w ≡ true
unfolding kind_of
string_form w form = is_text_form (is_name w) (is_number w) (is_string w) (is_quoted w) _ (symbol_of w) form

-- the form of names is that of no other text
is_name_form : (n d s q : Bool) (v : ℤ) (o : Option symbols.Symbol) → cond n (Some Name) (cond d (Some (Number v)) (cond s (Some Text) (cond q (Some Quoted) (option_map Symbol o)))) ≡ Some Name → n ≡ true
is_name_form true d s q v o e = refl
is_name_form false true s q v o e = absurd (cc)
is_name_form false false true q v o e = absurd (cc)
is_name_form false false false true v o e = absurd (cc)
is_name_form false false false false v None e = absurd (cc)
is_name_form false false false false v (Some s) e = absurd (cc)

name_form : (w : List ℕ) → kind_of w ≡ Some Name → is_name w ≡ true
unfolding kind_of
name_form w form = is_name_form (is_name w) (is_number w) (is_string w) (is_quoted w) _ (symbol_of w) form

word_formed : (o : Option Keyword) (w : List ℕ) → keyword_of w ≡ o → is_name w ≡ true → length w ≤ 64 → HasForm (option_map_or Reserved o (Word w))
word_formed None w free is short = record { named = is; short = short; free = free }
word_formed (Some k) w free is short = tt

meaning_formed : (kind : Kind) (w : List ℕ) → kind_of w ≡ Some kind → IsWithinLimits kind w → HasForm (meaning_of kind w)
meaning_formed Name w form short = word_formed (keyword_of w) w refl (name_form w form) short
meaning_formed (Number v) w form limits = tt
meaning_formed Text w form limits = string_text w (string_form w form)
meaning_formed Quoted w form limits = tt
meaning_formed (Symbol s) w form limits = tt

-- a token of the text that is a string stands for a text, and one that is a word for a name that is not reserved
pub token_formed : (bytes : List ℕ) (t : Token) → IsTokenOf bytes t → HasForm (lexeme_of bytes t)
token_formed bytes t is = meaning_formed t.kind (token_bytes bytes t) is.form is.limits
