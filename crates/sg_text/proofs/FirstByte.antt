-- Which form a text can have goes by its first byte.
use Rattle.std.proofs.Common.{◌≡◌, ℕ, Bool, true, false, cond, List, [], ◌∷◌, refl, arith, Some, None}
use Rattle.std.specs.Prelude.{◌==◌, pos, option_map, find, slice_index}
use Rattle.std.specs.Char.{is_ascii_digit}
use Rattle.std.specs.List.{list_all}
use Rattle.std.proofs.lemmas.Bool.Decides.{nat_tests}
use Rattle.sg_text.specs.declared.tokens.Kind.TheVariants.{Name, Number, Text, Quoted, Symbol}
use Rattle.sg_text.specs.Bytes.{is_letter, is_name_byte, is_sign, double_quote, single_quote}
use Rattle.sg_text.specs.Symbols.{symbol_of, symbols, symbol_bytes, is_same}
use Rattle.sg_text.specs.Forms.{kind_of, is_string_rest, is_quoted, value_of}

-- each symbol begins with such a byte
signs : list_all (λ s. is_sign (slice_index (symbol_bytes s) 0)) symbols ≡ true
signs = refl

find-none : {X : Type 0} (good test : X → Bool) (xs : List X) → list_all good xs ≡ true → ((x : X) → good x ≡ true → test x ≡ false) → find test xs ≡ None
find-none good test [] h never = refl
find-none good test (x ∷ xs) h never =
    let here : good x ≡ true = grind arith in
    let rest : list_all good xs ≡ true = grind arith in
    rw (never x here) (find-none good test xs rest never)

other-first : (xs : List ℕ) (b : ℕ) (w : List ℕ) → is_sign b ≡ false → is_sign (slice_index xs 0) ≡ true → is_same xs (b ∷ w) ≡ false
other-first [] b w other sign = refl
other-first (a ∷ xs) b w other sign = grind (arith, nat_tests)

-- no symbol begins with another byte
pub symbol_of-other : (b : ℕ) (w : List ℕ) → is_sign b ≡ false → symbol_of (b ∷ w) ≡ None
symbol_of-other b w other = find-none (λ s. is_sign (slice_index (symbol_bytes s) 0)) (λ s. is_same (symbol_bytes s) (b ∷ w)) symbols signs (λ s sign. other-first (symbol_bytes s) b w other sign)

letter-no-digit : (b : ℕ) → is_letter b ≡ true → is_ascii_digit b ≡ false
letter-no-digit b h = grind (arith, nat_tests)

letter-no-double : (b : ℕ) → is_letter b ≡ true → (b == double_quote) ≡ false
letter-no-double b h = grind (arith, nat_tests)

letter-no-single : (b : ℕ) → is_letter b ≡ true → (b == single_quote) ≡ false
letter-no-single b h = grind (arith, nat_tests)

letter-no-sign : (b : ℕ) → is_letter b ≡ true → is_sign b ≡ false
letter-no-sign b h = grind (arith, nat_tests)

digit-no-letter : (b : ℕ) → is_ascii_digit b ≡ true → is_letter b ≡ false
digit-no-letter b h = grind (arith, nat_tests)

digit-no-double : (b : ℕ) → is_ascii_digit b ≡ true → (b == double_quote) ≡ false
digit-no-double b h = grind (arith, nat_tests)

digit-no-single : (b : ℕ) → is_ascii_digit b ≡ true → (b == single_quote) ≡ false
digit-no-single b h = grind (arith, nat_tests)

digit-no-sign : (b : ℕ) → is_ascii_digit b ≡ true → is_sign b ≡ false
digit-no-sign b h = grind (arith, nat_tests)

sign-no-letter : (b : ℕ) → is_sign b ≡ true → is_letter b ≡ false
sign-no-letter b h = grind (arith, nat_tests)

sign-no-digit : (b : ℕ) → is_sign b ≡ true → is_ascii_digit b ≡ false
sign-no-digit b h = grind (arith, nat_tests)

pub sign-no-double : (b : ℕ) → is_sign b ≡ true → (b == double_quote) ≡ false
sign-no-double b h = grind (arith, nat_tests)

pub sign-no-single : (b : ℕ) → is_sign b ≡ true → (b == single_quote) ≡ false
sign-no-single b h = grind (arith, nat_tests)

-- after a letter, a name or nothing
pub kind_of-letter : (b : ℕ) (w : List ℕ) → is_letter b ≡ true → kind_of (b ∷ w) ≡ cond (list_all is_name_byte w) (Some Name) None
unfolding kind_of
kind_of-letter b w h = rw (h, letter-no-digit b h, letter-no-double b h, letter-no-single b h, symbol_of-other b w (letter-no-sign b h)) refl

-- after a digit, a number or nothing
pub kind_of-digit : (b : ℕ) (w : List ℕ) → is_ascii_digit b ≡ true → kind_of (b ∷ w) ≡ cond (list_all is_ascii_digit w) (Some (Number (pos (value_of (b ∷ w))))) None
unfolding kind_of
kind_of-digit b w h = rw (digit-no-letter b h, h, digit-no-double b h, digit-no-single b h, symbol_of-other b w (digit-no-sign b h)) refl

-- after a double quote, a string or nothing
pub kind_of-double : (w : List ℕ) → kind_of (double_quote ∷ w) ≡ cond (is_string_rest false w) (Some Text) None
unfolding kind_of
kind_of-double w = rw (symbol_of-other double_quote w refl) refl

-- after a single quote, a literal or nothing
pub kind_of-single : (w : List ℕ) → kind_of (single_quote ∷ w) ≡ cond (is_quoted (single_quote ∷ w)) (Some Quoted) None
unfolding kind_of
kind_of-single w = rw (symbol_of-other single_quote w refl) refl

-- after another byte, a symbol or nothing
pub kind_of-sign : (b : ℕ) (w : List ℕ) → is_sign b ≡ true → kind_of (b ∷ w) ≡ option_map Symbol (symbol_of (b ∷ w))
unfolding kind_of
kind_of-sign b w h = rw (sign-no-letter b h, sign-no-digit b h, sign-no-double b h, sign-no-single b h) refl
