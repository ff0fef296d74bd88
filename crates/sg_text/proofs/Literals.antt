-- Strings and quoted literals: which fronts of a text are one, from the lengths that the scanner measures.
use Rattle.std.proofs.Common.{◌≡◌, ℕ, zero, suc, ◌+◌, ◌-◌, ◌<◌, ◌≤◌, Bool, true, false, cond, not, ◌&&◌, ◌||◌, List, [], ◌∷◌, length, get_or, take, refl, sym, ◌∙◌, arith, length-take-le}
use Rattle.std.proofs.lemmas.List.{get_or-take, take-take}
use Rattle.std.proofs.lemmas.List.Sums.{prefix_len_is, prefix_len_passes}
use Rattle.std.specs.Prelude.{◌==◌, nat_le}
use Rattle.std.specs.List.{list_all, prefix_len}
use Rattle.std.proofs.lemmas.Bool.Decides.{nat_tests}
use Rattle.sg_text.specs.Bytes.{is_quoted_byte, double_quote, single_quote, backslash, newline}
use Rattle.sg_text.specs.Forms.{is_string_rest, is_quoted}
use Rattle.sg_text.specs.Tokens.{string_len, text_len, literal_len, quoted_len}

-- of the first k elements each passes just where k are within the longest front that passes
pub list_all-take : {X : Type 0} (p : X → Bool) (k : ℕ) (xs : List X) → k ≤ length xs → list_all p (take k xs) ≡ nat_le k (prefix_len p xs)
list_all-take p zero xs h = grind (arith, nat_tests)
list_all-take p (suc k) [] h = absurd (omega arith)
list_all-take p (suc k) (x ∷ xs) h =
    let rest = list_all-take p k xs (omega arith) in
    elim (p x) as (λ v. (v && list_all p (take k xs)) ≡ nat_le (suc k) (cond v (1 + prefix_len p xs) 0)) [
      | true ↦ grind (arith, nat_tests)
      | false ↦ grind (arith, nat_tests)
    ]

-- the byte before the rest of a string: a backslash is one
abbrev pub before : Bool → ℕ
before e = cond e 1 0

-- a front that is the rest of a string ends at its quote, and all before it may stand there
pub is_string_rest-ends : (e : Bool) (k : ℕ) (bs : List ℕ) → k < length bs → is_string_rest e (take (suc k) bs) ≡ true → (k ≡ string_len e bs) × (get_or bs k 0 ≡ double_quote) × (before e + k ≤ text_len e bs)
is_string_rest-ends e k [] h is = absurd (omega arith)
is_string_rest-ends true zero (b ∷ bs) h is = grind (arith, nat_tests)
is_string_rest-ends false zero (b ∷ bs) h is = grind (arith, nat_tests)
is_string_rest-ends true (suc k) (b ∷ bs) h is =
    let rest = is_string_rest-ends false k bs (omega arith) in grind (arith, nat_tests)
is_string_rest-ends false (suc k) (b ∷ bs) h is =
    let rest = is_string_rest-ends (b == backslash) k bs (omega arith) in grind (arith, nat_tests)

-- a front that ends at the quote is the rest of a string if all before it may stand there
pub is_string_rest-is : (e : Bool) (k : ℕ) (bs : List ℕ) → k ≡ string_len e bs → get_or bs k 0 ≡ double_quote → before e + k ≤ text_len e bs → is_string_rest e (take (suc k) bs) ≡ true
is_string_rest-is e k [] len quote good = grind (arith, nat_tests)
is_string_rest-is true zero (b ∷ bs) len quote good = grind (arith, nat_tests)
is_string_rest-is false zero (b ∷ bs) len quote good = grind (arith, nat_tests)
is_string_rest-is true (suc k) (b ∷ bs) len quote good =
    let rest = is_string_rest-is false k bs in grind (arith, nat_tests)
is_string_rest-is false (suc k) (b ∷ bs) len quote good =
    let rest = is_string_rest-is (b == backslash) k bs in grind (arith, nat_tests)

-- a bad byte before the end of a front is where it was
pub text_len-before : (e : Bool) (k : ℕ) (bs : List ℕ) → text_len e bs < before e + k → text_len e (take k bs) ≡ text_len e bs
text_len-before e zero [] h = refl
text_len-before true zero (b ∷ bs) h = grind (arith, nat_tests)
text_len-before false zero (b ∷ bs) h = absurd (omega arith)
text_len-before e (suc k) [] h = refl
text_len-before true (suc k) (b ∷ bs) h = let rest = text_len-before false k bs in grind (arith, nat_tests)
text_len-before false (suc k) (b ∷ bs) h = let rest = text_len-before (b == backslash) k bs in grind (arith, nat_tests)

-- without one all bytes before the quote may stand
pub text_len-closed : (e : Bool) (bs : List ℕ) → get_or bs (string_len e bs) 0 ≡ double_quote → before e + string_len e bs ≤ text_len e bs → text_len e (take (string_len e bs) bs) ≡ before e + string_len e bs
text_len-closed e [] quote good = grind (arith, nat_tests)
text_len-closed true (b ∷ bs) quote good = let rest = text_len-closed false bs in grind (arith, nat_tests)
text_len-closed false (b ∷ bs) quote good = let rest = text_len-closed (b == backslash) bs in grind (arith, nat_tests)

-- within a front of n elements, the longest front that passes is as long as before, up to n
prefix_len-take : {X : Type 0} (p : X → Bool) (n : ℕ) (xs : List X) → (k : ℕ) → k ≤ n → k ≤ prefix_len p xs → k ≤ prefix_len p (take n xs)
prefix_len-take p zero xs k within good = omega arith
prefix_len-take p (suc n) [] k within good = good
prefix_len-take p (suc n) (x ∷ xs) zero within good = omega arith
prefix_len-take p (suc n) (x ∷ xs) (suc k) within good =
    let rest = prefix_len-take p n xs k (omega arith) in grind arith

prefix_len-take-le : {X : Type 0} (p : X → Bool) (n : ℕ) (xs : List X) → (prefix_len p (take n xs) ≤ n) × (prefix_len p (take n xs) ≤ prefix_len p xs)
prefix_len-take-le p zero xs = (omega arith, omega arith)
prefix_len-take-le p (suc n) [] = (omega arith, omega arith)
prefix_len-take-le p (suc n) (x ∷ xs) =
    let rest = prefix_len-take-le p n xs in grind arith

quoted-no-end : (b : ℕ) → is_quoted_byte b ≡ true → not (b == single_quote || b == newline) ≡ true
quoted-no-end b h = grind (arith, nat_tests)

quote-ends : (b : ℕ) → b ≡ single_quote → not (b == single_quote || b == newline) ≡ false
quote-ends b h = grind (arith, nat_tests)

-- what a literal asks of the k bytes before the byte that ends it
literal : (k : ℕ) (bs : List ℕ) → k < length bs → is_quoted (single_quote ∷ take (suc k) bs) ≡ (nat_le 1 k && nat_le k 64 && get_or bs k 0 == single_quote && list_all is_quoted_byte (take k bs))
literal k bs h =
    let len : length (take (suc k) bs) ≡ suc k = length-take-le (suc k) bs (omega arith) in
    let last : suc (suc k) - 1 ≡ suc k = omega arith in
    let before_last : suc k - 1 ≡ k = omega arith in
    let least : nat_le 3 (suc (suc k)) ≡ nat_le 1 k = grind (arith, nat_tests) in
    let most : nat_le (suc (suc k)) 66 ≡ nat_le k 64 = grind (arith, nat_tests) in
    rw (len, last, before_last, least, most, take-take k (suc k) bs (omega arith), get_or-take (suc k) bs k 0 (omega arith)) refl

-- a literal of k bytes, the quote after them
pub is_quoted-is : (bs : List ℕ) → literal_len bs < length bs → get_or bs (literal_len bs) 0 ≡ single_quote → 0 < literal_len bs → literal_len bs ≤ quoted_len bs → is_quoted (single_quote ∷ take (suc (literal_len bs)) bs) ≡ true
is_quoted-is bs h quote some good =
    let n = literal_len bs in
    let most = prefix_len-take-le is_quoted_byte 64 bs in
    let each = list_all-take is_quoted_byte (literal_len bs) bs (omega arith) in
    rw (literal (literal_len bs) bs h) (grind (arith, nat_tests))

-- a front that is a literal ends at the first quote, and all its bytes may stand there
pub is_quoted-ends : (k : ℕ) (bs : List ℕ) → k < length bs → is_quoted (single_quote ∷ take (suc k) bs) ≡ true → (k ≡ literal_len bs) × (get_or bs k 0 ≡ single_quote) × (0 < k) × (k ≤ quoted_len bs)
is_quoted-ends k bs h is =
    let tests : (nat_le 1 k && nat_le k 64 && get_or bs k 0 == single_quote && list_all is_quoted_byte (take k bs)) ≡ true = sym (literal k bs h) ∙ is in
    let each = list_all-take is_quoted_byte k bs (omega arith) in
    let some : 0 < k = grind (arith, nat_tests) in
    let most : k ≤ 64 = grind (arith, nat_tests) in
    let quote : get_or bs k 0 ≡ single_quote = grind (arith, nat_tests) in
    let good : k ≤ prefix_len is_quoted_byte bs = grind (arith, nat_tests) in
    let ends : literal_len bs ≡ k = prefix_len_is (λ b. not (b == single_quote || b == newline)) bs k 0 (omega arith) (λ j less. quoted-no-end (get_or bs j 0) (prefix_len_passes is_quoted_byte bs j 0 (omega arith))) (λ _. quote-ends (get_or bs k 0) quote) in
    (sym ends, quote, some, prefix_len-take is_quoted_byte 64 bs k most good)
