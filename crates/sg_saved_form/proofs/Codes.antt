-- The code of a byte by its kind, and what stands between quotes.
use Rattle.std.proofs.Common.{◌≡◌, ℕ, ◌≤◌, Bool, true, false, cond, ◌&&◌, ◌||◌, ◌==◌, nat_eq, nat_le, [], ◌∷◌, ◌++◌, refl, sym, ap, subst, ◌∙◌, arith, inl, inr, leb-true, eqb-true, le-leb, ne_eqb, append_assoc, append-nil}
use Rattle.std.specs.Char.{is_ascii_digit, is_ascii_alphabetic}
use Rattle.std.specs.Int.{is_in_range}
use Rattle.std.proofs.lemmas.Bool.{and_parts, and_from, or_cases, or_right, eqb-false, cond-false}
use Rattle.sg_kinds.specs.Values.{Bytes, is_text, is_text_byte}
use Rattle.sg_text.specs.Bytes.{is_letter, is_escape, newline, double_quote, backslash, letter_n}
use Rattle.sg_text.specs.Strings.{escape_value}
use Rattle.sg_saved_form.specs.declared.kinds.Kind.{Kind}
use Rattle.sg_saved_form.specs.declared.kinds.Kind.TheVariants as kind
use Rattle.sg_saved_form.specs.Files.{escaped, escaped_byte, left_parenthesis, right_parenthesis, comma, dash}
use Rattle.sg_saved_form.specs.Kinds.{kind_of, zero_digit}

-- a byte that stands for itself in a text
abbrev pub IsPlainByte : ℕ → Type 0
IsPlainByte b = (is_text_byte b ≡ true) × (escaped_byte b ≡ b ∷ [])

text-byte : (b : ℕ) → 32 ≤ b → b ≤ 126 → is_text_byte b ≡ true
text-byte b low high = or_right (nat_eq b 10) (nat_le 32 b && nat_le b 126) (and_from (nat_le 32 b) (nat_le b 126) (le-leb 32 b low) (le-leb b 126 high))

pub itself : (b : ℕ) → (b ≡ 34 → ⊥) → (b ≡ 92 → ⊥) → (b ≡ 10 → ⊥) → escaped_byte b ≡ b ∷ []
itself b quote slash line =
    cond-false (b == double_quote) _ _ (ne_eqb b double_quote quote) ∙ cond-false (b == backslash) _ _ (ne_eqb b backslash slash) ∙ cond-false (b == newline) _ _ (ne_eqb b newline line)

range : (low high b : ℕ) → is_in_range low high b ≡ true → (low ≤ b) × (b ≤ high)
range low high b e = let p = and_parts (nat_le low b) (nat_le b high) e in (leb-true low b p.0, leb-true b high p.1)

letter-plain : (b : ℕ) → is_letter b ≡ true → IsPlainByte b
letter-plain b e = elim (or_cases (is_ascii_alphabetic b) (b == 95) e) [
  | inl alphabetic ↦ elim (or_cases (is_in_range 65 90 b) (is_in_range 97 122 b) alphabetic) [
    | inl upper ↦ let r = range 65 90 b upper in (text-byte b (omega (arith, r.0)) (omega (arith, r.1)), itself b (λ e. omega (arith, r.0)) (λ e. omega (arith, r.1)) (λ e. omega (arith, r.0)))
    | inr lower ↦ let r = range 97 122 b lower in (text-byte b (omega (arith, r.0)) (omega (arith, r.1)), itself b (λ e. omega (arith, r.0)) (λ e. omega (arith, r.0)) (λ e. omega (arith, r.0)))
  ]
  | inr line ↦ let is : b ≡ 95 = eqb-true b 95 line in (text-byte b (omega arith) (omega arith), itself b (λ e. omega arith) (λ e. omega arith) (λ e. omega arith))
]

-- what the kind of a byte tells of it
abbrev pub HasCode : Kind → ℕ → Type 0
HasCode kind.Letter b = (is_letter b ≡ true) × IsPlainByte b
HasCode kind.Zero b = b ≡ 48
HasCode kind.Digit b = (49 ≤ b) × (b ≤ 57)
HasCode kind.LeftParenthesis b = b ≡ left_parenthesis
HasCode kind.RightParenthesis b = b ≡ right_parenthesis
HasCode kind.Comma b = b ≡ comma
HasCode kind.Newline b = b ≡ newline
HasCode kind.DoubleQuote b = b ≡ double_quote
HasCode kind.Backslash b = b ≡ backslash
HasCode kind.Dash b = b ≡ dash
HasCode kind.Plain b = IsPlainByte b
HasCode kind.Other b = is_text_byte b ≡ false

choose : (b : ℕ) (t : Bool) (x y : Kind) → (t ≡ true → HasCode x b) → (t ≡ false → HasCode y b) → HasCode (cond t x y) b
choose b true x y f g = f refl
choose b false x y f g = g refl

pub kind-code : (b : ℕ) → HasCode (kind_of b) b
kind-code b =
    choose b (is_letter b) kind.Letter _ (λ e. (e, letter-plain b e)) (λ letter.
    choose b (b == zero_digit) kind.Zero _ (eqb-true b zero_digit) (λ zero.
    choose b (is_ascii_digit b) kind.Digit _ (λ e. digit (range 48 57 b e) (eqb-false b zero_digit zero)) (λ other.
    choose b (b == left_parenthesis) kind.LeftParenthesis _ (eqb-true b left_parenthesis) (λ left.
    choose b (b == right_parenthesis) kind.RightParenthesis _ (eqb-true b right_parenthesis) (λ right.
    choose b (b == comma) kind.Comma _ (eqb-true b comma) (λ comma.
    choose b (b == newline) kind.Newline _ (eqb-true b newline) (λ line.
    choose b (b == double_quote) kind.DoubleQuote _ (eqb-true b double_quote) (λ quote.
    choose b (b == backslash) kind.Backslash _ (eqb-true b backslash) (λ slash.
    choose b (b == dash) kind.Dash _ (eqb-true b dash) (λ minus.
    choose b (is_text_byte b) kind.Plain kind.Other (λ e. (e, itself b (eqb-false b double_quote quote) (eqb-false b backslash slash) (eqb-false b newline line))) (λ none. none)))))))))))
  where
    digit : (48 ≤ b) × (b ≤ 57) → (b ≡ 48 → ⊥) → (49 ≤ b) × (b ≤ 57)
    digit r ne = (omega (arith, r.0), r.1)

-- the bytes that stand for themselves in a text, by their kinds
abbrev pub is_plain : Kind → Bool
is_plain kind.DoubleQuote = false
is_plain kind.Backslash = false
is_plain kind.Newline = false
is_plain kind.Other = false
is_plain k = true

small-plain : (b : ℕ) → 32 ≤ b → b ≤ 91 → (b ≡ 34 → ⊥) → IsPlainByte b
small-plain b low high quote = (text-byte b low (omega arith), itself b quote (λ e. omega arith) (λ e. omega arith))

pub plain-code : (b : ℕ) (k : Kind) → HasCode k b → is_plain k ≡ true → IsPlainByte b
plain-code b kind.Letter code e = code.1
plain-code b kind.Zero code e = small-plain b (omega arith) (omega arith) (λ q. omega arith)
plain-code b kind.Digit code e = small-plain b (omega (arith, code.0)) (omega (arith, code.1)) (λ q. omega (arith, code.0))
plain-code b kind.LeftParenthesis code e = small-plain b (omega arith) (omega arith) (λ q. omega arith)
plain-code b kind.RightParenthesis code e = small-plain b (omega arith) (omega arith) (λ q. omega arith)
plain-code b kind.Comma code e = small-plain b (omega arith) (omega arith) (λ q. omega arith)
plain-code b kind.Dash code e = small-plain b (omega arith) (omega arith) (λ q. omega arith)
plain-code b kind.Plain code e = code
plain-code b k code e = absurd (cc)

-- a byte behind a backslash
pub escape-code : (b : ℕ) → is_escape b ≡ true → (is_text_byte (escape_value b) ≡ true) × (escaped_byte (escape_value b) ≡ backslash ∷ b ∷ [])
escape-code b e = elim (or_cases (b == double_quote || b == backslash) (b == letter_n) e) [
  | inl sign ↦ elim (or_cases (b == double_quote) (b == backslash) sign) [
    | inl quote ↦ at b double_quote (eqb-true b double_quote quote) (refl, refl)
    | inr slash ↦ at b backslash (eqb-true b backslash slash) (refl, refl)
  ]
  | inr line ↦ at b letter_n (eqb-true b letter_n line) (refl, refl)
]
  where
    IsEscaped : ℕ → Type 0
    IsEscaped b = (is_text_byte (escape_value b) ≡ true) × (escaped_byte (escape_value b) ≡ backslash ∷ b ∷ [])

    at : (b c : ℕ) → b ≡ c → IsEscaped c → IsEscaped b
    at b c is h = subst IsEscaped (sym is) h

-- one more byte in a text
pub escaped-more : (s : Bytes) (b : ℕ) → escaped (s ++ b ∷ []) ≡ escaped s ++ escaped_byte b
escaped-more [] b = simp append-nil
escaped-more (c ∷ s) b = ap (λ x. escaped_byte c ++ x) (escaped-more s b) ∙ sym (append_assoc (escaped_byte c) (escaped s) (escaped_byte b))

pub is_text-more : (s : Bytes) (b : ℕ) → is_text s ≡ true → is_text_byte b ≡ true → is_text (s ++ b ∷ []) ≡ true
is_text-more [] b text byte = and_from (is_text_byte b) true byte refl
is_text-more (c ∷ s) b text byte = let p = and_parts (is_text_byte c) (is_text s) text in and_from (is_text_byte c) (is_text (s ++ b ∷ [])) p.0 (is_text-more s b p.1 byte)
