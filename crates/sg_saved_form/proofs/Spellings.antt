-- Every file is read, and as its own term.
use Rattle.std.proofs.Common.{◌≡◌, ℕ, zero, suc, ◌+◌, ◌*◌, ◌-◌, ◌^◌, ◌/◌, ◌%◌, ◌<◌, ◌≤◌, ℤ, pos, negsuc, Bool, true, false, cond, ◌||◌, ◌==◌, nat_lt, List, [], ◌∷◌, ◌++◌, length, refl, sym, ap, subst, ◌∙◌, arith, Option, Some, None, is_some, option_and_then, append_assoc, append-nil, length-append, decimal, ltb-true, lt-ltb, eqb-true, ne_eqb}
use Rattle.std.specs.Char.{is_ascii_digit}
use Rattle.std.specs.Fmt.{signed_decimal}
use Rattle.std.specs.List.{list_all}
use Rattle.std.proofs.lemmas.Bool.{and_parts, eqb-false, cond-true, cond-false, true≢false}
use Rattle.std.proofs.lemmas.Fmt.{decimal_digit, decimal_by_steps}
use Rattle.sg_kinds.specs.Values.{Bytes, is_text, is_text_byte, is_number}
use Rattle.sg_text.specs.Bytes.{is_letter, is_name_byte, double_quote, backslash, newline}
use Rattle.sg_text.specs.Words.{keyword_of}
use Rattle.sg_saved_form.specs.declared.kinds.Kind.{Kind}
use Rattle.sg_saved_form.specs.declared.kinds.Kind.TheVariants as kind
use Rattle.sg_saved_form.specs.Files.{Raw, Raws, Branch, Whole, Quote, Flag, NoRaw, AndRaw, raws_of, escaped, escaped_byte, spelled, spelled_all, spelled_more, file_of, IsOperatorName, IsRaw, AreRaw, left_parenthesis, right_parenthesis, comma}
use Rattle.sg_saved_form.specs.Kinds.{kind_of, zero_digit}
use Rattle.sg_saved_form.specs.Machine.{Open, State, Frame, Before, Name, Minus, Digits, Text, After, End, feed_before, feed_after, flag_of, feed_name, feed_minus, with_digit, feed_digits, feed_text, feed, run}
use Rattle.sg_saved_form.proofs.Codes.{HasCode, kind-code, is_plain, itself}

-- a text is read in parts
pub run-append : (σ τ : State) (s t : Bytes) → run σ s ≡ Some τ → run σ (s ++ t) ≡ run τ t
run-append σ τ [] t is = let same : σ ≡ τ = cc in ap (λ x. run x t) same
run-append σ τ (b ∷ s) t is = by (feed σ b) (λ ρ. run-append ρ τ s t) is
  where
    by : (o : Option State) → ((ρ : State) → run ρ s ≡ Some τ → run ρ (s ++ t) ≡ run τ t) → option_and_then (λ ρ. run ρ s) o ≡ Some τ → option_and_then (λ ρ. run ρ (s ++ t)) o ≡ run τ t
    by None more is = absurd (cc)
    by (Some ρ) more is = more ρ is

run-step : (σ τ : State) (b : ℕ) (s : Bytes) → feed σ b ≡ Some τ → run σ (b ∷ s) ≡ run τ s
run-step σ τ b s is = ap (option_and_then (λ ρ. run ρ s)) is

run-alike : (σ τ : State) (b : ℕ) (s : Bytes) → feed σ b ≡ feed τ b → run σ (b ∷ s) ≡ run τ (b ∷ s)
run-alike σ τ b s is = ap (option_and_then (λ ρ. run ρ s)) is

-- the kinds of bytes behind a term
abbrev pub is_mark : Kind → Bool
is_mark kind.Comma = true
is_mark kind.RightParenthesis = true
is_mark kind.Newline = true
is_mark k = false

-- at such a byte a number and a name end
digits-end : (os : List Open) (z : ℤ) (b : ℕ) (k : Kind) → is_mark k ≡ true → feed_digits os z b k ≡ feed_after os (Whole z) k
digits-end os z b kind.Comma mark = refl
digits-end os z b kind.RightParenthesis mark = refl
digits-end os z b kind.Newline mark = refl
digits-end os z b k mark = absurd (cc)

flag-ends : (os : List Open) (bs : Bytes) (f : Bool) (b : ℕ) (k : Kind) → flag_of (keyword_of bs) ≡ Some f → is_mark k ≡ true → feed_name os bs b k ≡ feed_after os (Flag f) k
flag-ends os bs f b kind.Comma is mark = ap (option_and_then (λ f. feed_after os (Flag f) kind.Comma)) is
flag-ends os bs f b kind.RightParenthesis is mark = ap (option_and_then (λ f. feed_after os (Flag f) kind.RightParenthesis)) is
flag-ends os bs f b kind.Newline is mark = ap (option_and_then (λ f. feed_after os (Flag f) kind.Newline)) is
flag-ends os bs f b k is mark = absurd (cc)

-- the kinds of digits and of bytes of a name
digit-kind : (d : ℕ) → d < 10 → kind_of (48 + d) ≡ cond (d == 0) kind.Zero kind.Digit
digit-kind zero less = refl
digit-kind (suc zero) less = refl
digit-kind (suc (suc zero)) less = refl
digit-kind (suc (suc (suc zero))) less = refl
digit-kind (suc (suc (suc (suc zero)))) less = refl
digit-kind (suc (suc (suc (suc (suc zero))))) less = refl
digit-kind (suc (suc (suc (suc (suc (suc zero)))))) less = refl
digit-kind (suc (suc (suc (suc (suc (suc (suc zero))))))) less = refl
digit-kind (suc (suc (suc (suc (suc (suc (suc (suc zero)))))))) less = refl
digit-kind (suc (suc (suc (suc (suc (suc (suc (suc (suc zero))))))))) less = refl
digit-kind (suc (suc (suc (suc (suc (suc (suc (suc (suc (suc d)))))))))) less = absurd (omega arith)

some-digit : (d : ℕ) → 0 < d → d < 10 → kind_of (48 + d) ≡ kind.Digit
some-digit d some less = digit-kind d less ∙ cond-false (d == 0) kind.Zero kind.Digit (ne_eqb d 0 (λ e. omega arith))

-- a digit behind a number
module _ (os : List Open) (start : State) (number : ℕ → ℤ) (first : (d : ℕ) → 0 < d → d < 10 → feed start (48 + d) ≡ Some (Digits os (number d))) (more : (n d : ℕ) → 0 < n → with_digit (number n) (48 + d) ≡ number (n * 10 + d)) where
  digit-more : (n d : ℕ) → 0 < n → d < 10 → is_number (number (n * 10 + d)) ≡ true → feed (Digits os (number n)) (48 + d) ≡ Some (Digits os (number (n * 10 + d)))
  digit-more n d some less small =
      ap (feed_digits os (number n) (48 + d)) (digit-kind d less) ∙ either (d == 0) ∙ ap (λ z. cond (is_number z) (Some (Digits os z)) None) (more n d some) ∙ cond-true (is_number (number (n * 10 + d))) _ _ small
    where
      either : (t : Bool) → feed_digits os (number n) (48 + d) (cond t kind.Zero kind.Digit) ≡ cond (is_number (with_digit (number n) (48 + d))) (Some (Digits os (with_digit (number n) (48 + d)))) None
      either true = refl
      either false = refl

  abbrev IsRun : ℕ → Bytes → Type 0
  IsRun n ds = 0 < n → ((m : ℕ) → m ≤ n → is_number (number m) ≡ true) → (t : Bytes) → run start (ds ++ t) ≡ run (Digits os (number n)) t

  one-run : (n : ℕ) → n < 10 → IsRun n ((48 + n) ∷ [])
  one-run n digit some small t = run-step start (Digits os (number n)) (48 + n) t (first n some digit)

  more-run : (n : ℕ) (ds : Bytes) → 10 ≤ n → IsRun (n / 10) ds → IsRun n (ds ++ ((48 + n % 10) ∷ []))
  more-run n ds long before some small t =
      let same : n / 10 * 10 + n % 10 ≡ n = omega arith in
      ap (run start) (append_assoc ds ((48 + n % 10) ∷ []) t) ∙ before (omega arith) (λ m less. small m (omega arith)) ((48 + n % 10) ∷ t)
      ∙ run-step (Digits os (number (n / 10))) (Digits os (number (n / 10 * 10 + n % 10))) (48 + n % 10) t (digit-more (n / 10) (n % 10) (omega arith) (omega arith) (small (n / 10 * 10 + n % 10) (omega arith)))
      ∙ ap (λ m. run (Digits os (number m)) t) same

  digits-run : (n : ℕ) (t : Bytes) → 0 < n → n < 2 ^ 64 → ((m : ℕ) → m ≤ n → is_number (number m) ≡ true) → run start (decimal n ++ t) ≡ run (Digits os (number n)) t
  digits-run n t some small fits = decimal_by_steps IsRun one-run more-run n small some fits t

-- a number above 0, and one below
first-digit : (os : List Open) (d : ℕ) → 0 < d → d < 10 → feed (Before os) (48 + d) ≡ Some (Digits os (pos d))
first-digit os zero some less = absurd (omega arith)
first-digit os (suc d) some less =
    let same : 48 + suc d - 48 ≡ suc d = omega arith in
    ap (feed_before os (48 + suc d)) (some-digit (suc d) some less) ∙ ap (λ n. Some (Digits os (pos n))) same

minus-digit : (os : List Open) (d : ℕ) → 0 < d → d < 10 → feed (Minus os) (48 + d) ≡ Some (Digits os (negsuc (d - 1)))
minus-digit os zero some less = absurd (omega arith)
minus-digit os (suc d) some less =
    let same : 48 + suc d - 49 ≡ suc d - 1 = omega arith in
    ap (feed_minus os (48 + suc d)) (some-digit (suc d) some less) ∙ ap (λ n. Some (Digits os (negsuc n))) same

pos-run : (os : List Open) (n : ℕ) (t : Bytes) → 0 < n → n < 2 ^ 63 → run (Before os) (decimal n ++ t) ≡ run (Digits os (pos n)) t
pos-run os n t some small =
    digits-run os (Before os) pos (first-digit os) (λ n d some. (let same : n * 10 + (48 + d - 48) ≡ n * 10 + d = omega arith in ap pos same)) n t some (omega arith) (λ m less. lt-ltb m (2 ^ 63) (omega arith))

neg-run : (os : List Open) (n : ℕ) (t : Bytes) → n < 2 ^ 63 → run (Minus os) (decimal (suc n) ++ t) ≡ run (Digits os (negsuc n)) t
neg-run os n t small =
    let same : suc n - 1 ≡ n = omega arith in
    digits-run os (Minus os) (λ m. negsuc (m - 1)) (minus-digit os) (λ n d some. (let same : (n - 1) * 10 + 9 + (48 + d - 48) ≡ n * 10 + d - 1 = omega arith in ap negsuc same)) (suc n) t (omega arith) (omega arith) (λ m less. lt-ltb (m - 1) (2 ^ 63) (omega arith))
    ∙ ap (λ m. run (Digits os (negsuc m)) t) same

digits-over : (os : List Open) (z : ℤ) (c : ℕ) (t : Bytes) → is_mark (kind_of c) ≡ true → run (Digits os z) (c ∷ t) ≡ run (After os (Whole z)) (c ∷ t)
digits-over os z c t mark = run-alike (Digits os z) (After os (Whole z)) c t (digits-end os z c (kind_of c) mark)

whole-over : (z : ℤ) → is_number z ≡ true → (os : List Open) (c : ℕ) (t : Bytes) → is_mark (kind_of c) ≡ true → run (Before os) (signed_decimal z ++ c ∷ t) ≡ run (After os (Whole z)) (c ∷ t)
whole-over (pos zero) is os c t mark = ap (λ x. run (Before os) (x ++ c ∷ t)) (decimal_digit 0 (omega arith))
whole-over (pos (suc n)) is os c t mark = pos-run os (suc n) (c ∷ t) (omega arith) (ltb-true (suc n) (2 ^ 63) is) ∙ digits-over os (pos (suc n)) c t mark
whole-over (negsuc n) is os c t mark = neg-run os n (c ∷ t) (ltb-true n (2 ^ 63) is) ∙ digits-over os (negsuc n) c t mark

-- a byte of a text
plain-kind : (b : ℕ) (k : Kind) → HasCode k b → is_text_byte b ≡ true → (b ≡ 34 → ⊥) → (b ≡ 92 → ⊥) → (b ≡ 10 → ⊥) → is_plain k ≡ true
plain-kind b kind.DoubleQuote code byte quote slash line = absurd (quote code)
plain-kind b kind.Backslash code byte quote slash line = absurd (slash code)
plain-kind b kind.Newline code byte quote slash line = absurd (line code)
plain-kind b kind.Other code byte quote slash line = absurd (true≢false (sym byte ∙ code))
plain-kind b k code byte quote slash line = refl

plain-feeds : (os : List Open) (s : Bytes) (b : ℕ) (k : Kind) → is_plain k ≡ true → feed_text os s b k ≡ Some (Text os (s ++ b ∷ []))
plain-feeds os s b kind.DoubleQuote plain = absurd (cc)
plain-feeds os s b kind.Backslash plain = absurd (cc)
plain-feeds os s b kind.Newline plain = absurd (cc)
plain-feeds os s b kind.Other plain = absurd (cc)
plain-feeds os s b k plain = refl

byte-run : (os : List Open) (s : Bytes) (b : ℕ) (t : Bytes) → is_text_byte b ≡ true → run (Text os s) (escaped_byte b ++ t) ≡ run (Text os (s ++ b ∷ [])) t
byte-run os s b t byte = at_quote (b == double_quote) refl
  where
    IsByteRun : ℕ → Type 0
    IsByteRun c = run (Text os s) (escaped_byte c ++ t) ≡ run (Text os (s ++ c ∷ [])) t

    at_line : (b ≡ 34 → ⊥) → (b ≡ 92 → ⊥) → (x : Bool) → (b == newline) ≡ x → IsByteRun b
    at_line quote slash true e = subst IsByteRun (sym (eqb-true b newline e)) refl
    at_line quote slash false e =
        let line = eqb-false b newline e in
        ap (λ x. run (Text os s) (x ++ t)) (itself b quote slash line) ∙ run-step (Text os s) (Text os (s ++ b ∷ [])) b t (plain-feeds os s b (kind_of b) (plain-kind b (kind_of b) (kind-code b) byte quote slash line))

    at_slash : (b ≡ 34 → ⊥) → (x : Bool) → (b == backslash) ≡ x → IsByteRun b
    at_slash quote true e = subst IsByteRun (sym (eqb-true b backslash e)) refl
    at_slash quote false e = at_line quote (eqb-false b backslash e) (b == newline) refl

    at_quote : (x : Bool) → (b == double_quote) ≡ x → IsByteRun b
    at_quote true e = subst IsByteRun (sym (eqb-true b double_quote e)) refl
    at_quote false e = at_slash (eqb-false b double_quote e) (b == backslash) refl

text-run : (os : List Open) (done s t : Bytes) → is_text s ≡ true → run (Text os done) (escaped s ++ t) ≡ run (Text os (done ++ s)) t
text-run os done [] t text = ap (λ x. run (Text os x) t) (sym (append-nil done))
text-run os done (b ∷ s) t text =
    let p = and_parts (is_text_byte b) (is_text s) text in
    ap (run (Text os done)) (append_assoc (escaped_byte b) (escaped s) t) ∙ byte-run os done b (escaped s ++ t) p.0 ∙ text-run os (done ++ b ∷ []) s t p.1 ∙ ap (λ x. run (Text os x) t) (append_assoc done (b ∷ []) s)

quote-over : (s : Bytes) → is_text s ≡ true → (os : List Open) (t : Bytes) → run (Before os) (spelled (Quote s) ++ t) ≡ run (After os (Quote s)) t
quote-over s text os t = ap (run (Text os [])) (append_assoc (escaped s) (double_quote ∷ []) t) ∙ text-run os [] s (double_quote ∷ t) text

-- a name
abbrev is_name_kind : Kind → Bool
is_name_kind kind.Letter = true
is_name_kind kind.Zero = true
is_name_kind kind.Digit = true
is_name_kind k = false

name-kind : (b : ℕ) → is_name_byte b ≡ true → is_name_kind (kind_of b) ≡ true
name-kind b e = letter (is_letter b) (b == zero_digit) (is_ascii_digit b) _ e
  where
    letter : (x y z : Bool) (k : Kind) → (x || z) ≡ true → is_name_kind (cond x kind.Letter (cond y kind.Zero (cond z kind.Digit k))) ≡ true
    letter true y z k e = refl
    letter false true z k e = refl
    letter false false true k e = refl
    letter false false false k e = absurd (cc)

name-feeds : (os : List Open) (bs : Bytes) (b : ℕ) (k : Kind) → is_name_kind k ≡ true → length bs < 64 → feed_name os bs b k ≡ Some (Name os (bs ++ b ∷ []))
name-feeds os bs b kind.Letter name less = cond-true (nat_lt (length bs) 64) _ _ (lt-ltb (length bs) 64 less)
name-feeds os bs b kind.Zero name less = cond-true (nat_lt (length bs) 64) _ _ (lt-ltb (length bs) 64 less)
name-feeds os bs b kind.Digit name less = cond-true (nat_lt (length bs) 64) _ _ (lt-ltb (length bs) 64 less)
name-feeds os bs b k name less = absurd (cc)

name-run : (os : List Open) (done bs t : Bytes) → list_all is_name_byte bs ≡ true → length done + length bs ≤ 64 → run (Name os done) (bs ++ t) ≡ run (Name os (done ++ bs)) t
name-run os done [] t all short = ap (λ x. run (Name os x) t) (sym (append-nil done))
name-run os done (b ∷ bs) t all short =
    let p = and_parts (is_name_byte b) (list_all is_name_byte bs) all in
    run-step (Name os done) (Name os (done ++ b ∷ [])) b (bs ++ t) (name-feeds os done b (kind_of b) (name-kind b p.0) (omega arith)) ∙ name-run os (done ++ b ∷ []) bs t p.1 (omega (arith, length-append done (b ∷ []))) ∙ ap (λ x. run (Name os x) t) (append_assoc done (b ∷ []) bs)

-- an operator's name and the parenthesis behind it
opens : (os : List Open) (name t : Bytes) → IsOperatorName name → run (Before os) (name ++ left_parenthesis ∷ t) ≡ run (Before (record { name = name; kids = [] } ∷ os)) t
opens os [] t is = absurd (let none = is.named in cc)
opens os (b ∷ bs) t is =
    let p = and_parts (is_letter b) (list_all is_name_byte bs) is.named in
    run-step (Before os) (Name os (b ∷ [])) b (bs ++ left_parenthesis ∷ t) (ap (feed_before os b) (cond-true (is_letter b) kind.Letter _ p.0))
    ∙ name-run os (b ∷ []) bs (left_parenthesis ∷ t) p.1 (omega (arith, is.short))
    ∙ run-step (Name os (b ∷ bs)) (Before (record { name = b ∷ bs; kids = [] } ∷ os)) left_parenthesis t (ap (λ o. cond (is_some o) None (Some (Before (record { name = b ∷ bs; kids = [] } ∷ os)))) is.free)

flag-over : (f : Bool) (os : List Open) (c : ℕ) (t : Bytes) → is_mark (kind_of c) ≡ true → run (Before os) (spelled (Flag f) ++ c ∷ t) ≡ run (After os (Flag f)) (c ∷ t)
flag-over true os c t mark = run-alike (Name os (spelled (Flag true))) (After os (Flag true)) c t (flag-ends os (spelled (Flag true)) true c (kind_of c) refl mark)
flag-over false os c t mark = run-alike (Name os (spelled (Flag false))) (After os (Flag false)) c t (flag-ends os (spelled (Flag false)) false c (kind_of c) refl mark)

-- a row as a list
abbrev listed : Raws → List Raw
listed NoRaw = []
listed (AndRaw r rs) = r ∷ listed rs

of-listed : (rs : Raws) → raws_of (listed rs) ≡ rs
of-listed NoRaw = refl
of-listed (AndRaw r rs) = ap (AndRaw r) (of-listed rs)

-- a term that is read, whatever stands around it
abbrev IsReadOver : Raw → Type 0
IsReadOver r = (os : List Open) (c : ℕ) (t : Bytes) → is_mark (kind_of c) ≡ true → run (Before os) (spelled r ++ c ∷ t) ≡ run (After os r) (c ∷ t)

abbrev node : Bytes → List Raw → Open
node name kids = record { name = name; kids = kids }

mutual
  over : (r : Raw) → IsRaw r → IsReadOver r
  over (Branch name rs) is os c t mark =
      ap (run (Before os)) (append_assoc name (left_parenthesis ∷ (spelled_all rs ++ right_parenthesis ∷ [])) (c ∷ t)) ∙ opens os name ((spelled_all rs ++ right_parenthesis ∷ []) ++ c ∷ t) is.0
      ∙ ap (run (Before (node name [] ∷ os))) (append_assoc (spelled_all rs) (right_parenthesis ∷ []) (c ∷ t)) ∙ over-all rs is.1 name os (c ∷ t)
  over (Whole z) is os c t mark = whole-over z is os c t mark
  over (Quote s) is os c t mark = quote-over s is os (c ∷ t)
  over (Flag f) is os c t mark = flag-over f os c t mark

  over-all : (rs : Raws) → AreRaw rs → (name : Bytes) (os : List Open) (t : Bytes) → run (Before (node name [] ∷ os)) (spelled_all rs ++ right_parenthesis ∷ t) ≡ run (After os (Branch name rs)) t
  over-all NoRaw is name os t = refl
  over-all (AndRaw r rs) is name os t =
      ap (run (Before (node name [] ∷ os))) (append_assoc (spelled r) (spelled_more rs) (right_parenthesis ∷ t)) ∙ over-more rs is.1 r (over r is.0) name [] os t
      ∙ ap (λ x. run (After os (Branch name (AndRaw r x))) t) (of-listed rs)

  over-more : (rs : Raws) → AreRaw rs → (r : Raw) → IsReadOver r → (name : Bytes) (done : List Raw) (os : List Open) (t : Bytes)
      → run (Before (node name done ∷ os)) (spelled r ++ (spelled_more rs ++ right_parenthesis ∷ t)) ≡ run (After os (Branch name (raws_of (done ++ r ∷ listed rs)))) t
  over-more NoRaw is r here name done os t = here (node name done ∷ os) right_parenthesis t refl
  over-more (AndRaw x xs) is r here name done os t =
      here (node name done ∷ os) comma ((spelled x ++ spelled_more xs) ++ right_parenthesis ∷ t) refl
      ∙ ap (run (Before (node name (done ++ r ∷ []) ∷ os))) (append_assoc (spelled x) (spelled_more xs) (right_parenthesis ∷ t))
      ∙ over-more xs is.1 x (over x is.0) name (done ++ r ∷ []) os t
      ∙ ap (λ y. run (After os (Branch name (raws_of y))) t) (append_assoc done (r ∷ []) (x ∷ listed xs))

-- a file is read to its end
pub file-run : (r : Raw) → IsRaw r → run (Frame 0) (file_of r) ≡ Some (End r)
file-run r is = over r is [] newline [] refl
