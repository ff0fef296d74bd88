-- What stands at a place, by the first byte there and by what the scanner measures.
use Rattle.std.proofs.Common.{◌≡◌, ℕ, zero, suc, ◌+◌, ◌-◌, ◌<◌, ◌≤◌, ◌^◌, ◌⊎◌, true, false, cond, List, [], ◌∷◌, length, get_or, take, refl, ap, sym, ◌∙◌, arith, Some, None, subst, inl, inr}
use Rattle.std.specs.Prelude.{◌==◌, nat_le, pos}
use Rattle.std.specs.List.{list_all, prefix_len}
use Rattle.std.specs.Char.{is_ascii_digit}
use Rattle.std.proofs.lemmas.Bool.Decides.{nat_tests}
use Rattle.std.proofs.lemmas.List.Sums.{prefix_len-le-length}
use Rattle.sg_text.specs.declared.tokens.Kind.TheVariants.{Name, Number, Text, Quoted}
use Rattle.sg_text.specs.declared.tokens.LexFault.TheVariants.{Byte, Unclosed, LongNumber, LongName}
use Rattle.sg_text.specs.declared.forms.Form.TheVariants.{Found, Fault}
use Rattle.sg_text.specs.Bytes.{is_letter, is_name_byte, is_blank, double_quote, single_quote, slash}
use Rattle.sg_text.specs.Forms.{longest_form, value_of, is_string_rest, is_quoted}
use Rattle.sg_text.specs.Tokens.{form_at, token_at, string_len, text_len, literal_len, quoted_len}
use Rattle.sg_text.proofs.FirstByte.{kind_of-letter, kind_of-digit, kind_of-double, kind_of-single}
use Rattle.sg_text.proofs.Longest.{longest_form-is, longest_form-none}
use Rattle.sg_text.proofs.Literals.{list_all-take, text_len-before, text_len-closed, is_string_rest-ends, is_string_rest-is, is_quoted-is, is_quoted-ends}

-- neither a blank nor a slash: a token or a fault
form_at-token : (at b : ℕ) (bs : List ℕ) → is_blank b ≡ false → (b == slash) ≡ false → form_at at (b ∷ bs) ≡ token_at at (b ∷ bs)
unfolding form_at
form_at-token at b bs part cut = rw (part, cut) refl

letter-no-blank : (b : ℕ) → is_letter b ≡ true → is_blank b ≡ false
letter-no-blank b h = grind (arith, nat_tests)

letter-no-slash : (b : ℕ) → is_letter b ≡ true → (b == slash) ≡ false
letter-no-slash b h = grind (arith, nat_tests)

digit-no-blank : (b : ℕ) → is_ascii_digit b ≡ true → is_blank b ≡ false
digit-no-blank b h = grind (arith, nat_tests)

digit-no-slash : (b : ℕ) → is_ascii_digit b ≡ true → (b == slash) ≡ false
digit-no-slash b h = grind (arith, nat_tests)

-- the longest name
longest-name : (b : ℕ) (bs : List ℕ) → is_letter b ≡ true → longest_form (b ∷ bs) ≡ Some (Name, suc (prefix_len is_name_byte bs))
longest-name b bs h =
    let n = prefix_len is_name_byte bs in
    let within : prefix_len is_name_byte bs ≤ length bs = prefix_len-le-length is_name_byte bs in
    longest_form-is (prefix_len is_name_byte bs) b bs Name within (rw (kind_of-letter b (take (prefix_len is_name_byte bs) bs) h, list_all-take is_name_byte (prefix_len is_name_byte bs) bs within) (grind (arith, nat_tests))) (λ j more less. rw (kind_of-letter b (take j bs) h, list_all-take is_name_byte j bs less) (grind (arith, nat_tests)))

-- where a name begins
pub name-form : (at : ℕ) (bs : List ℕ) → is_letter (get_or bs 0 0) ≡ true → form_at at bs ≡ cond (nat_le (prefix_len is_name_byte bs) 64) (Found Name (prefix_len is_name_byte bs)) (Fault (LongName at))
name-form at [] h = cc
name-form at (b ∷ bs) h =
    let len : prefix_len is_name_byte (b ∷ bs) ≡ suc (prefix_len is_name_byte bs) = grind arith in
    rw (form_at-token at b bs (letter-no-blank b h) (letter-no-slash b h), longest-name b bs h, len) refl

-- the longest number
longest-number : (b : ℕ) (bs : List ℕ) → is_ascii_digit b ≡ true → longest_form (b ∷ bs) ≡ Some (Number (pos (value_of (b ∷ take (prefix_len is_ascii_digit bs) bs))), suc (prefix_len is_ascii_digit bs))
longest-number b bs h =
    let within : prefix_len is_ascii_digit bs ≤ length bs = prefix_len-le-length is_ascii_digit bs in
    longest_form-is (prefix_len is_ascii_digit bs) b bs (Number (pos (value_of (b ∷ take (prefix_len is_ascii_digit bs) bs)))) within (rw (kind_of-digit b (take (prefix_len is_ascii_digit bs) bs) h, list_all-take is_ascii_digit (prefix_len is_ascii_digit bs) bs within) (grind (arith, nat_tests))) (λ j more less. rw (kind_of-digit b (take j bs) h, list_all-take is_ascii_digit j bs less) (grind (arith, nat_tests)))

-- where a number begins
pub number-form : (at : ℕ) (bs : List ℕ) → is_ascii_digit (get_or bs 0 0) ≡ true → form_at at bs ≡ cond (nat_le (value_of (take (prefix_len is_ascii_digit bs) bs)) (2 ^ 63 - 1)) (Found (Number (pos (value_of (take (prefix_len is_ascii_digit bs) bs)))) (prefix_len is_ascii_digit bs)) (Fault (LongNumber at))
number-form at [] h = cc
number-form at (b ∷ bs) h =
    let len : prefix_len is_ascii_digit (b ∷ bs) ≡ suc (prefix_len is_ascii_digit bs) = grind arith in
    rw (form_at-token at b bs (digit-no-blank b h) (digit-no-slash b h), longest-number b bs h, len) refl

-- a front is the rest of a string only at its end, and where all bytes may stand
string-only : (j : ℕ) (bs : List ℕ) → j ≤ length bs → (is_string_rest false (take j bs) ≡ false) ⊎ ((j ≡ suc (string_len false bs)) × (get_or bs (string_len false bs) 0 ≡ double_quote) × (string_len false bs ≤ text_len false bs))
string-only zero bs h = inl refl
string-only (suc j) bs h =
    let ends = is_string_rest-ends false j bs (omega arith) in
    elim (is_string_rest false (take (suc j) bs)) as (λ v. ((v ≡ true) → (j ≡ string_len false bs) × (get_or bs j 0 ≡ double_quote) × (0 + j ≤ text_len false bs)) → (v ≡ false) ⊎ ((suc j ≡ suc (string_len false bs)) × (get_or bs (string_len false bs) 0 ≡ double_quote) × (string_len false bs ≤ text_len false bs))) [
      | true ↦ λ e. let facts = e refl in inr (ap suc facts.0, subst (λ i. get_or bs i 0 ≡ double_quote) facts.0 facts.1, omega (arith, facts))
      | false ↦ λ e. inl refl
    ] ends

-- a string with its quote
longest-string : (bs : List ℕ) → string_len false bs < length bs → get_or bs (string_len false bs) 0 ≡ double_quote → string_len false bs ≤ text_len false bs → longest_form (double_quote ∷ bs) ≡ Some (Text, suc (suc (string_len false bs)))
longest-string bs h quote good =
    longest_form-is (suc (string_len false bs)) double_quote bs Text (omega arith) (rw (kind_of-double (take (suc (string_len false bs)) bs), is_string_rest-is false (string_len false bs) bs refl quote (omega arith)) refl) (λ j more less. rw (kind_of-double (take j bs)) (let only = string-only j bs less in let rest : is_string_rest false (take j bs) ≡ false = grind arith in rw rest refl))

-- no string
longest-string-none : (bs : List ℕ) → ((get_or bs (string_len false bs) 0 ≡ double_quote) → text_len false bs < string_len false bs) → longest_form (double_quote ∷ bs) ≡ None
longest-string-none bs bad =
    longest_form-none double_quote bs (λ j less. rw (kind_of-double (take j bs)) (let only = string-only j bs less in let rest : is_string_rest false (take j bs) ≡ false = grind arith in rw rest refl))

-- a place at which something stands is within the text
pub within-text : (bs : List ℕ) (n q : ℕ) → 0 < q → get_or bs n 0 ≡ q → n < length bs
within-text [] n q some h = absurd (omega arith)
within-text (b ∷ bs) zero q some h = omega arith
within-text (b ∷ bs) (suc n) q some h = omega (arith, within-text bs n q some h)

pub string-found : (at : ℕ) (bs : List ℕ) → get_or bs (string_len false bs) 0 ≡ double_quote → string_len false bs ≤ text_len false bs → form_at at (double_quote ∷ bs) ≡ Found Text (string_len false bs + 2)
string-found at bs quote good =
    let inside = within-text bs (string_len false bs) double_quote (omega arith) quote in
    rw (form_at-token at double_quote bs refl refl, longest-string bs inside quote good) (ap (Found Text) (omega arith))

pub string-bad : (at : ℕ) (bs : List ℕ) → get_or bs (string_len false bs) 0 ≡ double_quote → text_len false bs < string_len false bs → form_at at (double_quote ∷ bs) ≡ Fault (Byte (at + 1 + text_len false bs))
string-bad at bs quote bad =
    rw (form_at-token at double_quote bs refl refl, longest-string-none bs (λ _. bad), quote) refl

pub string-open : (at : ℕ) (bs : List ℕ) → (get_or bs (string_len false bs) 0 ≡ double_quote → ⊥) → form_at at (double_quote ∷ bs) ≡ Fault (Unclosed at)
string-open at bs unquoted =
    let test : (get_or bs (string_len false bs) 0 == double_quote) ≡ false = grind (arith, nat_tests) in
    rw (form_at-token at double_quote bs refl refl, longest-string-none bs (λ quote. absurd (unquoted quote)), test) refl

-- the same, of lengths that were measured
pub string-found_at : (at : ℕ) (bs : List ℕ) (n q : ℕ) → n ≡ string_len false bs → q ≡ text_len false (take n bs) → get_or bs n 0 ≡ double_quote → q ≡ n → Found Text (n + 2) ≡ form_at at (double_quote ∷ bs)
string-found_at at bs n q len good quote all =
    let measured : text_len false (take (string_len false bs) bs) ≡ string_len false bs = subst (λ i. text_len false (take i bs) ≡ i) len (sym good ∙ all) in
    let before_end = text_len-before false (string_len false bs) bs in
    let within : string_len false bs ≤ text_len false bs = grind arith in
    rw len (sym (string-found at bs (subst (λ i. get_or bs i 0 ≡ double_quote) len quote) within))

pub string-bad_at : (at : ℕ) (bs : List ℕ) (n q : ℕ) → n ≡ string_len false bs → q ≡ text_len false (take n bs) → get_or bs n 0 ≡ double_quote → (q ≡ n → ⊥) → Fault (Byte (at + 1 + q)) ≡ form_at at (double_quote ∷ bs)
string-bad_at at bs n q len good quote bad =
    let at_end : get_or bs (string_len false bs) 0 ≡ double_quote = subst (λ i. get_or bs i 0 ≡ double_quote) len quote in
    let measured : q ≡ text_len false (take (string_len false bs) bs) = good ∙ ap (λ i. text_len false (take i bs)) len in
    let closed = text_len-closed false bs at_end in
    let short : text_len false bs < string_len false bs = grind arith in
    let same : text_len false (take (string_len false bs) bs) ≡ text_len false bs = text_len-before false (string_len false bs) bs (omega arith) in
    rw (measured, same) (sym (string-bad at bs at_end short))

-- where a string begins
pub string-form : (at : ℕ) (bs : List ℕ) → form_at at (double_quote ∷ bs) ≡ cond (get_or bs (string_len false bs) 0 == double_quote) (cond (nat_le (string_len false bs) (text_len false bs)) (Found Text (string_len false bs + 2)) (Fault (Byte (at + 1 + text_len false bs)))) (Fault (Unclosed at))
string-form at bs = grind (arith, nat_tests, string-found, string-bad, string-open)

-- a front is a literal only at its end, and where all bytes may stand
literal-only : (j : ℕ) (bs : List ℕ) → j ≤ length bs → (is_quoted (single_quote ∷ take j bs) ≡ false) ⊎ ((j ≡ suc (literal_len bs)) × (get_or bs (literal_len bs) 0 ≡ single_quote) × (0 < literal_len bs) × (literal_len bs ≤ quoted_len bs))
literal-only zero bs h = inl refl
literal-only (suc j) bs h =
    let ends = is_quoted-ends j bs (omega arith) in
    elim (is_quoted (single_quote ∷ take (suc j) bs)) as (λ v. ((v ≡ true) → (j ≡ literal_len bs) × (get_or bs j 0 ≡ single_quote) × (0 < j) × (j ≤ quoted_len bs)) → (v ≡ false) ⊎ ((suc j ≡ suc (literal_len bs)) × (get_or bs (literal_len bs) 0 ≡ single_quote) × (0 < literal_len bs) × (literal_len bs ≤ quoted_len bs))) [
      | true ↦ λ e. let facts = e refl in inr (ap suc facts.0, subst (λ i. get_or bs i 0 ≡ single_quote) facts.0 facts.1, omega (arith, facts), omega (arith, facts))
      | false ↦ λ e. inl refl
    ] ends

-- a literal with its quote
longest-literal : (bs : List ℕ) → literal_len bs < length bs → get_or bs (literal_len bs) 0 ≡ single_quote → 0 < literal_len bs → literal_len bs ≤ quoted_len bs → longest_form (single_quote ∷ bs) ≡ Some (Quoted, suc (suc (literal_len bs)))
longest-literal bs h quote some good =
    longest_form-is (suc (literal_len bs)) single_quote bs Quoted (omega arith) (rw (kind_of-single (take (suc (literal_len bs)) bs), is_quoted-is bs h quote some good) refl) (λ j more less. rw (kind_of-single (take j bs)) (let only = literal-only j bs less in let rest : is_quoted (single_quote ∷ take j bs) ≡ false = grind arith in rw rest refl))

-- no literal
longest-literal-none : (bs : List ℕ) → (get_or bs (literal_len bs) 0 ≡ single_quote → 0 < literal_len bs → quoted_len bs < literal_len bs) → longest_form (single_quote ∷ bs) ≡ None
longest-literal-none bs bad =
    longest_form-none single_quote bs (λ j less. rw (kind_of-single (take j bs)) (let only = literal-only j bs less in let rest : is_quoted (single_quote ∷ take j bs) ≡ false = grind arith in rw rest refl))

pub literal-found : (at : ℕ) (bs : List ℕ) → get_or bs (literal_len bs) 0 ≡ single_quote → 0 < literal_len bs → literal_len bs ≤ quoted_len bs → form_at at (single_quote ∷ bs) ≡ Found Quoted (literal_len bs + 2)
literal-found at bs quote some good =
    let inside = within-text bs (literal_len bs) single_quote (omega arith) quote in
    rw (form_at-token at single_quote bs refl refl, longest-literal bs inside quote some good) (ap (Found Quoted) (omega arith))

pub literal-empty : (at : ℕ) (bs : List ℕ) → get_or bs (literal_len bs) 0 ≡ single_quote → literal_len bs ≡ 0 → form_at at (single_quote ∷ bs) ≡ Fault (Byte at)
literal-empty at bs quote none =
    let test : (get_or bs (literal_len bs) 0 == single_quote) ≡ true = grind (arith, nat_tests) in
    let test_none : (literal_len bs == 0) ≡ true = grind (arith, nat_tests) in
    rw (form_at-token at single_quote bs refl refl, longest-literal-none bs (λ _ some. absurd (omega arith)), test, test_none) refl

pub literal-bad : (at : ℕ) (bs : List ℕ) → get_or bs (literal_len bs) 0 ≡ single_quote → 0 < literal_len bs → quoted_len bs < literal_len bs → form_at at (single_quote ∷ bs) ≡ Fault (Byte (at + 1 + quoted_len bs))
literal-bad at bs quote some bad =
    let test : (get_or bs (literal_len bs) 0 == single_quote) ≡ true = grind (arith, nat_tests) in
    let test_some : (literal_len bs == 0) ≡ false = grind (arith, nat_tests) in
    rw (form_at-token at single_quote bs refl refl, longest-literal-none bs (λ _ _. bad), test, test_some) refl

pub literal-open : (at : ℕ) (bs : List ℕ) → (get_or bs (literal_len bs) 0 ≡ single_quote → ⊥) → form_at at (single_quote ∷ bs) ≡ Fault (Unclosed at)
literal-open at bs unquoted =
    let test : (get_or bs (literal_len bs) 0 == single_quote) ≡ false = grind (arith, nat_tests) in
    rw (form_at-token at single_quote bs refl refl, longest-literal-none bs (λ quote _. absurd (unquoted quote)), test) refl

-- the same, of lengths that were measured
pub literal-found_at : (at : ℕ) (bs : List ℕ) (n q : ℕ) → n ≡ literal_len bs → q ≡ quoted_len bs → get_or bs n 0 ≡ single_quote → 0 < n → n ≤ q → Found Quoted (n + 2) ≡ form_at at (single_quote ∷ bs)
literal-found_at at bs n q len good quote some within =
    rw len (sym (literal-found at bs (subst (λ i. get_or bs i 0 ≡ single_quote) len quote) (omega arith) (omega arith)))

pub literal-bad_at : (at : ℕ) (bs : List ℕ) (n q : ℕ) → n ≡ literal_len bs → q ≡ quoted_len bs → get_or bs n 0 ≡ single_quote → 0 < n → q < n → Fault (Byte (at + 1 + q)) ≡ form_at at (single_quote ∷ bs)
literal-bad_at at bs n q len good quote some beyond =
    rw good (sym (literal-bad at bs (subst (λ i. get_or bs i 0 ≡ single_quote) len quote) (omega arith) (omega arith)))

-- where a literal begins
pub literal-form : (at : ℕ) (bs : List ℕ) → form_at at (single_quote ∷ bs) ≡ cond (get_or bs (literal_len bs) 0 == single_quote) (cond (literal_len bs == 0) (Fault (Byte at)) (cond (nat_le (literal_len bs) (quoted_len bs)) (Found Quoted (literal_len bs + 2)) (Fault (Byte (at + 1 + quoted_len bs))))) (Fault (Unclosed at))
literal-form at bs = grind (arith, nat_tests, literal-found, literal-empty, literal-bad, literal-open)

pub ruleset string_forms = (within-text, string-open)

pub ruleset literal_forms = (within-text, literal-found, literal-empty, literal-bad, literal-open)

pub name-found : (at : ℕ) (bs : List ℕ) → is_letter (get_or bs 0 0) ≡ true → prefix_len is_name_byte bs ≤ 64 → form_at at bs ≡ Found Name (prefix_len is_name_byte bs)
name-found at bs h short = rw (name-form at bs h) (grind (arith, nat_tests))

pub name-long : (at : ℕ) (bs : List ℕ) → is_letter (get_or bs 0 0) ≡ true → 64 < prefix_len is_name_byte bs → form_at at bs ≡ Fault (LongName at)
name-long at bs h long = rw (name-form at bs h) (grind (arith, nat_tests))

pub number-found : (at : ℕ) (bs : List ℕ) → is_ascii_digit (get_or bs 0 0) ≡ true → value_of (take (prefix_len is_ascii_digit bs) bs) < 2 ^ 63 → form_at at bs ≡ Found (Number (pos (value_of (take (prefix_len is_ascii_digit bs) bs)))) (prefix_len is_ascii_digit bs)
number-found at bs h small = rw (number-form at bs h) (grind (arith, nat_tests))

pub number-long : (at : ℕ) (bs : List ℕ) → is_ascii_digit (get_or bs 0 0) ≡ true → 2 ^ 63 ≤ value_of (take (prefix_len is_ascii_digit bs) bs) → form_at at bs ≡ Fault (LongNumber at)
number-long at bs h large = rw (number-form at bs h) (grind (arith, nat_tests))

-- the digits at the front are all digits
pub digits : (bs : List ℕ) → list_all is_ascii_digit (take (prefix_len is_ascii_digit bs) bs) ≡ true
digits bs = list_all-take is_ascii_digit (prefix_len is_ascii_digit bs) bs (prefix_len-le-length is_ascii_digit bs) ∙ grind (arith, nat_tests)

pub ruleset name_forms = (name-found, name-long)

pub ruleset number_forms = (digits, number-found, number-long)
