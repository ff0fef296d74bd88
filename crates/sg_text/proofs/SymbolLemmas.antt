-- The longest symbol is the longest form where a sign stands.
use Rattle.std.proofs.Common.{◌≡◌, ℕ, zero, suc, ◌<◌, ◌≤◌, true, false, List, [], ◌∷◌, length, get_or, take, drop, refl, ap, arith, Option, Some, None}
use Rattle.std.specs.Prelude.{option_map}
use Rattle.std.specs.Option.{option_or, option_map_or}
use Rattle.std.proofs.lemmas.Bool.Decides.{nat_tests}
use Rattle.sg_text.specs.declared.tokens.Kind.{Kind}
use Rattle.sg_text.specs.declared.tokens.Kind.TheVariants.{Symbol}
use Rattle.sg_text.specs.declared.symbols.Symbol as declared
use Rattle.sg_text.specs.declared.tokens.LexFault.TheVariants.{Byte}
use Rattle.sg_text.specs.declared.forms.Form.TheVariants.{Gap, Found, Fault}
use Rattle.sg_text.specs.Bytes.{is_sign, is_blank}
use Rattle.sg_text.specs.Symbols.{symbol_of, longest_symbol, sized}
use Rattle.sg_text.specs.Forms.{longest_form, longest_within}
use Rattle.sg_text.specs.Tokens.{form_at, token_at, longest_at, fault_at, opens_comment, comment_form, comment_end}
use Rattle.sg_text.proofs.FirstByte.{kind_of-sign, sign-no-double, sign-no-single}

-- a symbol with its length as a form with its length
abbrev as_form : declared.Symbol × ℕ → Kind × ℕ
as_form p = (Symbol p.0, p.1)

one : (o : Option declared.Symbol) → option_or (option_map (λ kind. (kind, 1)) (option_map Symbol o)) None ≡ option_map as_form (sized 1 o)
one None = refl
one (Some s) = refl

two : (o2 o1 : Option declared.Symbol) → option_or (option_map (λ kind. (kind, 2)) (option_map Symbol o2)) (option_or (option_map (λ kind. (kind, 1)) (option_map Symbol o1)) None) ≡ option_map as_form (option_or (sized 2 o2) (sized 1 o1))
two None o1 = one o1
two (Some s) o1 = refl

three : (o3 o2 o1 : Option declared.Symbol) → option_or (option_map (λ kind. (kind, 3)) (option_map Symbol o3)) (option_or (option_map (λ kind. (kind, 2)) (option_map Symbol o2)) (option_or (option_map (λ kind. (kind, 1)) (option_map Symbol o1)) None)) ≡ option_map as_form (option_or (sized 3 o3) (option_or (sized 2 o2) (sized 1 o1)))
three None o2 o1 = two o2 o1
three (Some s) o2 o1 = refl

-- no symbol has four bytes or more
beyond-three : (n : ℕ) (a b c : ℕ) (bs : List ℕ) → is_sign a ≡ true → n ≤ length bs → longest_within (suc (suc (suc n))) (a ∷ b ∷ c ∷ bs) ≡ longest_within 3 (a ∷ b ∷ c ∷ bs)
beyond-three zero a b c bs sign h = refl
beyond-three (suc n) a b c [] sign h = absurd (omega arith)
beyond-three (suc n) a b c (d ∷ bs) sign h =
    rw (kind_of-sign a (b ∷ c ∷ d ∷ take n bs) sign) (beyond-three n a b c (d ∷ bs) sign (omega arith))

longest-symbol : (a : ℕ) (bs : List ℕ) → is_sign a ≡ true → longest_form (a ∷ bs) ≡ option_map as_form (longest_symbol (a ∷ bs))
unfolding longest_form
longest-symbol a [] sign = rw (kind_of-sign a [] sign) (one (symbol_of (a ∷ [])))
longest-symbol a (b ∷ []) sign =
    rw (kind_of-sign a (b ∷ []) sign, kind_of-sign a [] sign) (two (symbol_of (a ∷ b ∷ [])) (symbol_of (a ∷ [])))
longest-symbol a (b ∷ c ∷ bs) sign =
    rw (beyond-three (length bs) a b c bs sign (omega arith), kind_of-sign a (b ∷ c ∷ []) sign, kind_of-sign a (b ∷ []) sign, kind_of-sign a [] sign) (three (symbol_of (a ∷ b ∷ c ∷ [])) (symbol_of (a ∷ b ∷ [])) (symbol_of (a ∷ [])))

symbol-at : (at : ℕ) (bs : List ℕ) (o : Option (declared.Symbol × ℕ)) → fault_at at bs ≡ Byte at → longest_at at bs (option_map as_form o) ≡ option_map_or (λ p. Found (Symbol p.0) p.1) o (Fault (Byte at))
symbol-at at bs None fault = ap Fault fault
symbol-at at bs (Some p) fault = refl

fault-sign : (at b : ℕ) (bs : List ℕ) → is_sign b ≡ true → fault_at at (b ∷ bs) ≡ Byte at
fault-sign at b bs sign = rw (sign-no-double b sign, sign-no-single b sign) refl

token-sign : (at b : ℕ) (bs : List ℕ) → is_blank b ≡ false → opens_comment (b ∷ bs) ≡ false → form_at at (b ∷ bs) ≡ token_at at (b ∷ bs)
unfolding form_at
token-sign at b bs part closed = rw (part, closed) refl

-- where a symbol may begin
pub symbol-form : (at : ℕ) (bs : List ℕ) → 0 < length bs → is_sign (get_or bs 0 0) ≡ true → is_blank (get_or bs 0 0) ≡ false → opens_comment bs ≡ false → form_at at bs ≡ option_map_or (λ p. Found (Symbol p.0) p.1) (longest_symbol bs) (Fault (Byte at))
symbol-form at [] some sign part closed = absurd (omega arith)
symbol-form at (b ∷ bs) some sign part closed =
    rw (token-sign at b bs part closed, longest-symbol b bs sign) (symbol-at at (b ∷ bs) (longest_symbol (b ∷ bs)) (fault-sign at b bs sign))

-- where a blank stands
pub blank-form : (at : ℕ) (bs : List ℕ) → is_blank (get_or bs 0 0) ≡ true → form_at at bs ≡ Gap 1
unfolding form_at
blank-form at bs blank = rw blank refl

-- where a comment begins
pub comment-form : (at : ℕ) (bs : List ℕ) → opens_comment bs ≡ true → form_at at bs ≡ comment_form at (comment_end (drop 2 bs))
unfolding form_at
comment-form at bs opens =
    let part : is_blank (get_or bs 0 0) ≡ false = grind (arith, nat_tests) in rw (part, opens) refl

pub symbol-found : (at : ℕ) (bs : List ℕ) (p : declared.Symbol × ℕ) → 0 < length bs → is_sign (get_or bs 0 0) ≡ true → is_blank (get_or bs 0 0) ≡ false → opens_comment bs ≡ false → longest_symbol bs ≡ Some p → form_at at bs ≡ Found (Symbol p.0) p.1
symbol-found at bs p some sign part closed found = rw (symbol-form at bs some sign part closed, found) refl

pub symbol-none : (at : ℕ) (bs : List ℕ) → 0 < length bs → is_sign (get_or bs 0 0) ≡ true → is_blank (get_or bs 0 0) ≡ false → opens_comment bs ≡ false → longest_symbol bs ≡ None → form_at at bs ≡ Fault (Byte at)
symbol-none at bs some sign part closed none = rw (symbol-form at bs some sign part closed, none) refl

pub ruleset symbol_forms = (symbol-found, symbol-none)

pub ruleset blank_forms = (blank-form)
