-- What is read so far is the front of a file.
use Rattle.std.proofs.Common.{◌≡◌, ◌≢◌, ℕ, zero, suc, ◌+◌, ◌*◌, ◌-◌, ◌^◌, ◌/◌, ◌%◌, ◌<◌, ◌≤◌, ℤ, pos, negsuc, Bool, true, false, cond, ◌&&◌, ◌==◌, nat_lt, List, [], ◌∷◌, ◌++◌, length, slice_index, refl, sym, ap, subst, ◌∙◌, arith, Option, Some, None, is_some, option_and_then, IfSome, append_assoc, append-nil, decimal, length-append, ltb-true, lt-ltb, le-leb, eqb-true}
use Rattle.std.specs.Fmt.{signed_decimal}
use Rattle.std.proofs.lemmas.Bool.{and_parts, or_left, or_right, and_from}
use Rattle.std.proofs.lemmas.Fmt.{decimal_digit, decimal_step}
use Rattle.sg_kinds.specs.Values.{Bytes, is_text, is_number}
use Rattle.sg_text.specs.Bytes.{is_name_byte, is_escape, double_quote, backslash, newline}
use Rattle.sg_text.specs.Strings.{escape_value}
use Rattle.sg_text.specs.Forms.{is_name}
use Rattle.sg_text.specs.Words.{keyword_of}
use Rattle.sg_saved_form.specs.declared.kinds.Kind.{Kind}
use Rattle.sg_saved_form.specs.declared.kinds.Kind.TheVariants as kind
use Rattle.sg_saved_form.specs.Files.{Raw, Whole, Flag, raws_of, escaped, spelled, spelled_all, spelled_more, frame, IsOperatorName, IsRaw, AreRaw, left_parenthesis, right_parenthesis, comma, dash}
use Rattle.sg_saved_form.specs.Kinds.{kind_of}
use Rattle.sg_saved_form.specs.Machine.{Open, State, Frame, Before, Name, Minus, Digits, Text, Escape, After, End, closed, with_kid, framed, feed_frame, close_empty, feed_before, feed_after, flag_of, feed_flag, longer_name, feed_name, feed_minus, with_digit, longer_number, feed_digits, feed_text, feed_escape, feed_kind, feed, run, led, outer, text_of}
use Rattle.sg_saved_form.proofs.Codes.{HasCode, kind-code, is_plain, plain-code, escape-code, escaped-more, is_text-more}
use Rattle.sg_saved_form.proofs.Names.{name-more, name-one, flag-bytes, free-of}

-- what is known of the nodes that are open, and of a state
abbrev pub AreOpen : List Open → Type 0
AreOpen [] = Unit {0}
AreOpen (o ∷ os) = IsOperatorName o.name × AreRaw (raws_of o.kids) × AreOpen os

abbrev pub IsState : State → Type 0
IsState (Frame k) = k < 5
IsState (Before os) = AreOpen os
IsState (Name os bs) = AreOpen os × (is_name bs ≡ true) × (length bs ≤ 64)
IsState (Minus os) = AreOpen os
IsState (Digits os z) = AreOpen os × (is_number z ≡ true) × (z ≢ pos 0)
IsState (Text os s) = AreOpen os × (is_text s ≡ true)
IsState (Escape os s) = AreOpen os × (is_text s ≡ true)
IsState (After os r) = AreOpen os × IsRaw r
IsState (End r) = IsRaw r

-- a byte leads from one state to another
pub record Goes (σ : State) (b : ℕ) (τ : State) : Type 0 where
  pub is : IsState τ
  pub text : text_of τ ≡ text_of σ ++ b ∷ []

abbrev GoesIf : State → ℕ → Option State → Type 0
GoesIf σ b o = IfSome o (Goes σ b)

goes-when : (σ τ : State) (b : ℕ) (t : Bool) → (t ≡ true → Goes σ b τ) → GoesIf σ b (cond t (Some τ) None)
goes-when σ τ b true f = f refl
goes-when σ τ b false f = tt

-- a state of the same text
goes-same : (σ ρ : State) (b : ℕ) (o : Option State) → text_of ρ ≡ text_of σ → GoesIf ρ b o → GoesIf σ b o
goes-same σ ρ b None same g = tt
goes-same σ ρ b (Some τ) same g = record { is = g.is; text = g.text ∙ ap (λ x. x ++ b ∷ []) same }

-- the same text with another byte behind it
behind : (s t : Bytes) (b c : ℕ) → b ≡ c → t ≡ s ++ c ∷ [] → t ≡ s ++ b ∷ []
behind s t b c same is = is ∙ ap (λ x. s ++ x ∷ []) (sym same)

goes-frame : (k b : ℕ) → GoesIf (Frame k) b (feed_frame k b)
goes-frame zero b = goes-when (Frame 0) (Frame 1) b (b == 83) (λ e. record { is = omega arith; text = ap (λ x. x ∷ []) (sym (eqb-true b 83 e)) })
goes-frame (suc zero) b = goes-when (Frame 1) (Frame 2) b (b == 71) (λ e. record { is = omega arith; text = ap (λ x. 83 ∷ x ∷ []) (sym (eqb-true b 71 e)) })
goes-frame (suc (suc zero)) b = goes-when (Frame 2) (Frame 3) b (b == 84) (λ e. record { is = omega arith; text = ap (λ x. 83 ∷ 71 ∷ x ∷ []) (sym (eqb-true b 84 e)) })
goes-frame (suc (suc (suc zero))) b = goes-when (Frame 3) (Frame 4) b (b == 49) (λ e. record { is = omega arith; text = ap (λ x. 83 ∷ 71 ∷ 84 ∷ x ∷ []) (sym (eqb-true b 49 e)) })
goes-frame (suc (suc (suc (suc zero)))) b = goes-when (Frame 4) (Before []) b (b == 10) (λ e. record { is = tt; text = ap (λ x. 83 ∷ 71 ∷ 84 ∷ 49 ∷ x ∷ []) (sym (eqb-true b 10 e)) })
goes-frame (suc (suc (suc (suc (suc k))))) b =
    let n = suc (suc (suc (suc (suc k)))) in
    goes-when (Frame n) (framed (n + 1)) b (nat_lt n 5 && b == slice_index frame n) (λ e. absurd (omega (arith, ltb-true n 5 (and_parts (nat_lt n 5) (b == slice_index frame n) e).0)))

-- children, and one more
led-more : (rs : List Raw) (r : Raw) → led (rs ++ r ∷ []) ≡ led rs ++ (spelled r ++ comma ∷ [])
led-more [] r = refl
led-more (x ∷ rs) r = ap (λ y. spelled x ++ comma ∷ y) (led-more rs r) ∙ sym (append_assoc (spelled x) (comma ∷ led rs) (spelled r ++ comma ∷ []))

more-led : (rs : List Raw) (r : Raw) → spelled_more (raws_of (rs ++ r ∷ [])) ≡ comma ∷ (led rs ++ spelled r)
more-led [] r = ap (λ x. comma ∷ x) (append-nil (spelled r))
more-led (x ∷ rs) r = ap (λ y. comma ∷ (spelled x ++ y)) (more-led rs r) ∙ ap (λ y. comma ∷ y) (sym (append_assoc (spelled x) (comma ∷ led rs) (spelled r)))

pub all-led : (rs : List Raw) (r : Raw) → spelled_all (raws_of (rs ++ r ∷ [])) ≡ led rs ++ spelled r
all-led [] r = append-nil (spelled r)
all-led (x ∷ rs) r = ap (λ y. spelled x ++ y) (more-led rs r) ∙ sym (append_assoc (spelled x) (comma ∷ led rs) (spelled r))

pub raw-more : (rs : List Raw) (r : Raw) → AreRaw (raws_of rs) → IsRaw r → AreRaw (raws_of (rs ++ r ∷ []))
raw-more [] r all is = (is, tt)
raw-more (x ∷ rs) r all is = (all.0, raw-more rs r all.1 is)

-- a node ends behind its last child
pub closed-text : (os : List Open) (o : Open) (r : Raw) → outer os ++ spelled (closed (with_kid o r)) ≡ ((outer (o ∷ os) ++ spelled r) ++ right_parenthesis ∷ [])
closed-text os o r = ap (λ x. outer os ++ (o.name ++ left_parenthesis ∷ (x ++ right_parenthesis ∷ []))) (all-led o.kids r) ∙ simp append_assoc

goes-close : (os : List Open) (b : ℕ) → b ≡ right_parenthesis → AreOpen os → GoesIf (Before os) b (close_empty os)
goes-close [] b code opened = tt
goes-close (o ∷ os) b code opened = by o.name o.kids opened
  where
    by : (name : Bytes) (kids : List Raw) → AreOpen (record { name = name; kids = kids } ∷ os) → GoesIf (Before (record { name = name; kids = kids } ∷ os)) b (close_empty (record { name = name; kids = kids } ∷ os))
    by name [] opened = record { is = (opened.2, (opened.0, tt)); text = behind (outer os ++ (name ++ left_parenthesis ∷ [])) _ b right_parenthesis code (simp append_assoc) }
    by name (k ∷ ks) opened = goes-when (Before (record { name = name; kids = k ∷ ks } ∷ os)) (After os (closed (record { name = name; kids = k ∷ ks }))) b (length (k ∷ ks) == 0) (λ e. absurd (omega (arith, eqb-true (length (k ∷ ks)) 0 e)))

goes-before : (os : List Open) (b : ℕ) (k : Kind) → HasCode k b → AreOpen os → GoesIf (Before os) b (feed_before os b k)
goes-before os b kind.Letter code opened = record { is = (opened, name-one b code.0, omega arith); text = refl }
goes-before os b kind.Zero code opened = record { is = (opened, refl); text = behind (outer os) _ b 48 code (ap (λ x. outer os ++ x) (decimal_digit 0 (omega arith))) }
goes-before os b kind.Digit code opened =
    let same : 48 + (b - 48) ≡ b = omega (arith, code.0) in
    record { is = (opened, lt-ltb (b - 48) (2 ^ 63) (omega (arith, code.1)), λ e. (let none : b - 48 ≡ 0 = cc in omega (arith, code.0, none))); text = ap (λ x. outer os ++ x) (decimal_digit (b - 48) (omega (arith, code.1)) ∙ ap (λ x. x ∷ []) same) }
goes-before os b kind.Dash code opened = record { is = opened; text = behind (outer os) _ b dash code refl }
goes-before os b kind.DoubleQuote code opened = record { is = (opened, refl); text = behind (outer os) _ b double_quote code refl }
goes-before os b kind.RightParenthesis code opened = goes-close os b code opened
goes-before os b k code opened = tt

goes-after : (os : List Open) (r : Raw) (b : ℕ) (k : Kind) → HasCode k b → AreOpen os → IsRaw r → GoesIf (After os r) b (feed_after os r k)
goes-after [] r b kind.Newline code opened is = record { is = is; text = behind (frame ++ spelled r) _ b newline code (sym (append_assoc frame (spelled r) (newline ∷ []))) }
goes-after (o ∷ os) r b kind.Comma code opened is = record {
  is = (opened.0, raw-more o.kids r opened.1 is, opened.2);
  text = behind (outer (o ∷ os) ++ spelled r) _ b comma code (ap (λ x. outer os ++ (o.name ++ left_parenthesis ∷ x)) (led-more o.kids r) ∙ simp append_assoc);
}
goes-after (o ∷ os) r b kind.RightParenthesis code opened is = record {
  is = (opened.2, (opened.0, raw-more o.kids r opened.1 is));
  text = behind (outer (o ∷ os) ++ spelled r) _ b right_parenthesis code (closed-text os o r);
}
goes-after [] r b k code opened is = tt
goes-after (o ∷ os) r b k code opened is = tt

goes-longer_name : (os : List Open) (bs : Bytes) (b : ℕ) → is_name_byte b ≡ true → AreOpen os → is_name bs ≡ true → GoesIf (Name os bs) b (longer_name os bs b)
goes-longer_name os bs b byte opened name =
    goes-when (Name os bs) (Name os (bs ++ b ∷ [])) b (nat_lt (length bs) 64) (λ e. record { is = (opened, name-more bs b name byte, omega (arith, length-append bs (b ∷ []), ltb-true (length bs) 64 e)); text = sym (append_assoc (outer os) bs (b ∷ [])) })

goes-opened : (os : List Open) (bs : Bytes) (b : ℕ) → b ≡ left_parenthesis → AreOpen os → is_name bs ≡ true → length bs ≤ 64 → (t : Bool) → is_some (keyword_of bs) ≡ t
    → GoesIf (Name os bs) b (cond t None (Some (Before (record { name = bs; kids = [] } ∷ os))))
goes-opened os bs b code opened name short true e = tt
goes-opened os bs b code opened name short false e = record {
  is = (record { named = name; short = short; free = free-of bs e }, tt, opened);
  text = behind (outer os ++ bs) _ b left_parenthesis code (sym (append_assoc (outer os) bs (left_parenthesis ∷ [])));
}

goes-flag : (os : List Open) (bs : Bytes) (b : ℕ) (k : Kind) → HasCode k b → AreOpen os → (f : Option Bool) → flag_of (keyword_of bs) ≡ f → GoesIf (Name os bs) b (feed_flag os f k)
goes-flag os bs b k code opened None is = tt
goes-flag os bs b k code opened (Some f) is =
    goes-same (Name os bs) (After os (Flag f)) b (feed_after os (Flag f) k) (ap (λ x. outer os ++ x) (sym (flag-bytes bs f is))) (goes-after os (Flag f) b k code opened tt)

digit-byte : (b : ℕ) → 48 ≤ b → b ≤ 57 → is_name_byte b ≡ true
digit-byte b low high = or_right _ _ (and_from _ _ (le-leb 48 b low) (le-leb b 57 high))

goes-name : (os : List Open) (bs : Bytes) (b : ℕ) (k : Kind) → HasCode k b → AreOpen os → is_name bs ≡ true → length bs ≤ 64 → GoesIf (Name os bs) b (feed_name os bs b k)
goes-name os bs b kind.Letter code opened name short = goes-longer_name os bs b (or_left _ _ code.0) opened name
goes-name os bs b kind.Zero code opened name short = goes-longer_name os bs b (digit-byte b (omega arith) (omega arith)) opened name
goes-name os bs b kind.Digit code opened name short = goes-longer_name os bs b (digit-byte b (omega (arith, code.0)) (omega (arith, code.1))) opened name
goes-name os bs b kind.LeftParenthesis code opened name short = goes-opened os bs b code opened name short (is_some (keyword_of bs)) refl
goes-name os bs b k code opened name short = goes-flag os bs b k code opened (flag_of (keyword_of bs)) refl

goes-minus : (os : List Open) (b : ℕ) (k : Kind) → HasCode k b → AreOpen os → GoesIf (Minus os) b (feed_minus os b k)
goes-minus os b kind.Digit code opened =
    let same : 48 + suc (b - 49) ≡ b = omega (arith, code.0) in
    record {
      is = (opened, lt-ltb (b - 49) (2 ^ 63) (omega (arith, code.1)), λ e. cc);
      text = ap (λ x. outer os ++ dash ∷ x) (decimal_digit (suc (b - 49)) (omega (arith, code.1)) ∙ ap (λ x. x ∷ []) same) ∙ sym (append_assoc (outer os) (dash ∷ []) (b ∷ []));
    }
goes-minus os b k code opened = tt

-- one more digit
decimal-more : (n d b : ℕ) → 0 < n → d < 10 → 48 + d ≡ b → n * 10 + d < 2 ^ 64 → decimal (n * 10 + d) ≡ decimal n ++ b ∷ []
decimal-more n d b some digit is small =
    let front : (n * 10 + d) / 10 ≡ n = omega arith in
    let last : 48 + (n * 10 + d) % 10 ≡ b = omega arith in
    decimal_step (n * 10 + d) (omega arith) small ∙ (λ i. decimal (front i) ++ (last i ∷ []))

pub digit-text : (z : ℤ) (b : ℕ) → 48 ≤ b → b ≤ 57 → is_number (with_digit z b) ≡ true → z ≢ pos 0 → signed_decimal (with_digit z b) ≡ signed_decimal z ++ b ∷ []
digit-text (pos zero) b low high small some = absurd (some refl)
digit-text (pos (suc n)) b low high small some = decimal-more (suc n) (b - 48) b (omega arith) (omega arith) (omega arith) (omega (arith, ltb-true (suc n * 10 + (b - 48)) (2 ^ 63) small))
digit-text (negsuc n) b low high small some =
    let same : suc (n * 10 + 9 + (b - 48)) ≡ suc n * 10 + (b - 48) = omega arith in
    ap (λ x. dash ∷ x) (ap decimal same ∙ decimal-more (suc n) (b - 48) b (omega arith) (omega arith) (omega arith) (omega (arith, ltb-true (n * 10 + 9 + (b - 48)) (2 ^ 63) small)))

pub digit-some : (z : ℤ) (b : ℕ) → z ≢ pos 0 → with_digit z b ≢ pos 0
digit-some (pos zero) b some e = some refl
digit-some (pos (suc n)) b some e = let none : suc n * 10 + (b - 48) ≡ 0 = cc in omega arith
digit-some (negsuc n) b some e = cc

goes-longer_number : (os : List Open) (z : ℤ) (b : ℕ) → 48 ≤ b → b ≤ 57 → AreOpen os → z ≢ pos 0 → GoesIf (Digits os z) b (longer_number os (with_digit z b))
goes-longer_number os z b low high opened some =
    goes-when (Digits os z) (Digits os (with_digit z b)) b (is_number (with_digit z b)) (λ e. record { is = (opened, e, digit-some z b some); text = ap (λ x. outer os ++ x) (digit-text z b low high e some) ∙ sym (append_assoc (outer os) (signed_decimal z) (b ∷ [])) })

goes-digits : (os : List Open) (z : ℤ) (b : ℕ) (k : Kind) → HasCode k b → AreOpen os → is_number z ≡ true → z ≢ pos 0 → GoesIf (Digits os z) b (feed_digits os z b k)
goes-digits os z b kind.Zero code opened number some = goes-longer_number os z b (omega arith) (omega arith) opened some
goes-digits os z b kind.Digit code opened number some = goes-longer_number os z b (omega (arith, code.0)) (omega (arith, code.1)) opened some
goes-digits os z b k code opened number some = goes-same (Digits os z) (After os (Whole z)) b (feed_after os (Whole z) k) refl (goes-after os (Whole z) b k code opened number)

-- one more byte of a text
text-more : (os : List Open) (s : Bytes) (b : ℕ) (k : Kind) → HasCode k b → is_plain k ≡ true → AreOpen os → is_text s ≡ true → Goes (Text os s) b (Text os (s ++ b ∷ []))
text-more os s b k code plain opened text =
    let byte = plain-code b k code plain in
    record { is = (opened, is_text-more s b text byte.0); text = ap (λ x. outer os ++ double_quote ∷ x) (escaped-more s b ∙ ap (λ x. escaped s ++ x) byte.1) ∙ sym (append_assoc (outer os) (double_quote ∷ escaped s) (b ∷ [])) }

goes-text : (os : List Open) (s : Bytes) (b : ℕ) (k : Kind) → HasCode k b → AreOpen os → is_text s ≡ true → GoesIf (Text os s) b (feed_text os s b k)
goes-text os s b kind.DoubleQuote code opened text = record { is = (opened, text); text = behind (outer os ++ double_quote ∷ escaped s) _ b double_quote code (simp append_assoc) }
goes-text os s b kind.Backslash code opened text = record { is = (opened, text); text = behind (outer os ++ double_quote ∷ escaped s) _ b backslash code (simp append_assoc) }
goes-text os s b kind.Newline code opened text = tt
goes-text os s b kind.Other code opened text = tt
goes-text os s b k code opened text = text-more os s b k code refl opened text

goes-escape : (os : List Open) (s : Bytes) (b : ℕ) → AreOpen os → is_text s ≡ true → GoesIf (Escape os s) b (feed_escape os s b)
goes-escape os s b opened text = goes-when (Escape os s) (Text os (s ++ escape_value b ∷ [])) b (is_escape b) (λ e. (
    let byte = escape-code b e in
    record { is = (opened, is_text-more s (escape_value b) text byte.0); text = ap (λ x. outer os ++ double_quote ∷ x) (escaped-more s (escape_value b) ∙ ap (λ x. escaped s ++ x) byte.1) ∙ simp append_assoc }))

goes-kind : (σ : State) (b : ℕ) (k : Kind) → HasCode k b → IsState σ → GoesIf σ b (feed_kind σ b k)
goes-kind (Frame n) b k code is = goes-frame n b
goes-kind (Before os) b k code is = goes-before os b k code is
goes-kind (Name os bs) b k code is = goes-name os bs b k code is.0 is.1 is.2
goes-kind (Minus os) b k code is = goes-minus os b k code is
goes-kind (Digits os z) b k code is = goes-digits os z b k code is.0 is.1 is.2
goes-kind (Text os s) b k code is = goes-text os s b k code is.0 is.1
goes-kind (Escape os s) b k code is = goes-escape os s b is.0 is.1
goes-kind (After os r) b k code is = goes-after os r b k code is.0 is.1
goes-kind (End r) b k code is = tt

-- one more byte, and some more
pub goes : (σ : State) (b : ℕ) → IsState σ → GoesIf σ b (feed σ b)
goes σ b is = goes-kind σ b (kind_of b) (kind-code b) is

-- reading a text leads from one state to another
pub record Leads (σ : State) (s : Bytes) (τ : State) : Type 0 where
  pub is : IsState τ
  pub text : text_of τ ≡ text_of σ ++ s

pub leads : (σ τ : State) (s : Bytes) → IsState σ → run σ s ≡ Some τ → Leads σ s τ
leads σ τ [] is to = let same : σ ≡ τ = cc in record { is = subst IsState same is; text = ap text_of (sym same) ∙ sym (append-nil (text_of σ)) }
leads σ τ (b ∷ s) is to = by (feed σ b) (goes σ b is) (λ ρ. leads ρ τ s) to
  where
    by : (o : Option State) → GoesIf σ b o → ((ρ : State) → IsState ρ → run ρ s ≡ Some τ → Leads ρ s τ) → option_and_then (λ ρ. run ρ s) o ≡ Some τ → Leads σ (b ∷ s) τ
    by None g more to = absurd (cc)
    by (Some ρ) g more to =
        let rest = more ρ g.is to in
        record { is = rest.is; text = rest.text ∙ ap (λ x. x ++ s) g.text ∙ append_assoc (text_of σ) (b ∷ []) s }
