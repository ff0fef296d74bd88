-- Spellings and readings, step by step.
use Rattle.std.proofs.Common.{◌≡◌, ℕ, zero, suc, ◌+◌, ◌<◌, ◌≤◌, ◌^◌, Bool, true, false, List, [], ◌∷◌, ◌++◌, length, Some, None, refl, sym, ap, ◌∙◌, subst, arith, append_assoc}
use Rattle.std.specs.Prelude.{nat_lt, flat_map, cond}
use Rattle.std.specs.List.{AllByRecursion}
use Rattle.std.proofs.lemmas.List.{append-nil}
use Rattle.std.proofs.lemmas.Bool.{ltb-true, lt-ltb}
use Rattle.std.proofs.lemmas.Option.{same_Some}
use denote.Enum.Bare.{same_true, true_same}
use Rattle.sg_text.specs.Lexemes.{Lexeme, Word, Reserved, Numeral, String, Literal, Sign}
use Rattle.sg_text.specs.contracts.symbols.Symbol as symbols
use Rattle.sg_text.specs.contracts.words.Keyword as keywords
use Rattle.sg_text.specs.declared.symbols.Symbol.{Symbol}
use Rattle.sg_text.specs.declared.words.Keyword.{Keyword}
use Rattle.sg_kinds.specs.declared.fault.Position.{Position}
use Rattle.sg_ast.specs.declared.name.Name.{Name}
use Rattle.sg_ast.specs.declared.name.Quoted.{Quoted}
use Rattle.sg_ast.specs.Spelling.{Mark, Piece, Free, Kept, Takes, none, free, kept, sign, sign_at, word, named, text, literal}
use Rattle.sg_ast.specs.Grouped.{InRange}
use Rattle.sg_ast.specs.Readers.{Outcome, Reader, and_then, is_sign, is_reserved, sees, eat, expect, name, number, string, quoted, more}

-- one spelling behind another
pub ◌then◌ : {x y : List Piece} {ms mid rest : List Mark} → Takes x ms mid → Takes y mid rest → Takes (x ++ y) ms rest
none then s = s
free t then s = free (t then s)
kept t then s = kept (t then s)

infixr 10 ◌then◌
-- a spelling in two parts
pub splits : (x : List Piece) {y : List Piece} {ms rest : List Mark} → Takes (x ++ y) ms rest → (mid : List Mark) × Takes x ms mid × Takes y mid rest
splits [] {ms = ms} t = (ms, none, t)
splits (Free l ∷ x) (free t) = let s = splits x t in (s.0, free s.1, s.2)
splits (Kept l place ∷ x) (kept t) = let s = splits x t in (s.0, kept s.1, s.2)

pub ends : {ms rest : List Mark} → Takes [] ms rest → ms ≡ rest
ends none = refl

-- a spelling takes as many marks as it has pieces
pub shorter : {x : List Piece} {ms rest : List Mark} → Takes x ms rest → length ms ≡ length x + length rest
shorter none = omega arith
shorter (free t) = omega (arith, shorter t)
shorter (kept t) = omega (arith, shorter t)

-- what a reading that goes on has read first
pub opens : {A B : Type 0} {o : Outcome A} {f : A → Reader B} {y : B × List Mark} → and_then o f ≡ Some y
    → (a : A) × (mid : List Mark) × (o ≡ Some (a, mid)) × (f a mid ≡ Some y)
opens {o = Some p} e = (p.0, p.1, refl, e)
opens {o = None} e = absurd (cc)

-- what holds of what was read and left at last
pub closes : {B : Type 0} (P : B → List Mark → Type 0) {a b : B} {ms rest : List Mark} → P a ms → ◌≡◌ {A = Outcome B} (Some (a, ms)) (Some (b, rest)) → P b rest
closes {B = B} P {a = a} {b = b} {ms = ms} {rest = rest} p e =
    let x : B × List Mark = (a, ms) in
    let y : B × List Mark = (b, rest) in
    let pair : x ≡ y = same_Some _ _ e in
    let Q : B × List Mark → Type 0 = λ p. P p.0 p.1 in
    subst Q pair p

pub either : {G X : Type 0} {x y z : X} (b : Bool) → cond b x y ≡ z → (b ≡ true → x ≡ z → G) → (b ≡ false → y ≡ z → G) → G
either true e f g = f refl e
either false e f g = g refl e

-- ---- the next token

pub sign_self : (s : Symbol) → is_sign s (Sign s) ≡ true
sign_self s = true_same symbols.the_type s s refl

pub sign_only : (s : Symbol) (l : Lexeme) → is_sign s l ≡ true → l ≡ Sign s
sign_only s (Sign t) e = ap Sign (sym (same_true symbols.the_type tt s t e))
sign_only s l e = absurd (cc)

pub reserved_self : (k : Keyword) → is_reserved k (Reserved k) ≡ true
reserved_self k = true_same keywords.the_type k k refl

pub reserved_only : (k : Keyword) (l : Lexeme) → is_reserved k l ≡ true → l ≡ Reserved k
reserved_only k (Reserved t) e = ap Reserved (sym (same_true keywords.the_type tt k t e))
reserved_only k l e = absurd (cc)

-- the first of a spelling is read, and the others are left
pub record First {A : Type 0} (p : Reader A) (a : A) (ps : List Piece) (ms rest : List Mark) : Type 0 where
  pub mid : List Mark
  pub read : p ms ≡ Some (a, mid)
  pub tail : Takes ps mid rest

pub name_first : {n : Name} {ps : List Piece} {ms rest : List Mark} → Takes (named n ∷ ps) ms rest → First name n ps ms rest
unfolding name
name_first (kept {ms = ms} t) = record { mid = ms; read = refl; tail = t }

pub string_first : {s : Quoted} {ps : List Piece} {ms rest : List Mark} → Takes (text s ∷ ps) ms rest → First string s ps ms rest
unfolding string
string_first (kept {ms = ms} t) = record { mid = ms; read = refl; tail = t }

pub quoted_first : {s : Quoted} {ps : List Piece} {ms rest : List Mark} → Takes (literal s ∷ ps) ms rest → First quoted s ps ms rest
unfolding quoted
quoted_first (kept {ms = ms} t) = record { mid = ms; read = refl; tail = t }

pub number_first : (n : ℕ) (place : Position) {ps : List Piece} {ms rest : List Mark} → InRange n → Takes (Kept (Numeral n) place ∷ ps) ms rest → First number (n, place) ps ms rest
unfolding number
number_first n place small (kept {ms = ms} t) = record { mid = ms; read = rw (lt-ltb n (2 ^ 63) small) refl; tail = t }

-- the same, where the tree keeps no place
pub record Behind {A : Type 0} (p : Reader A) (ps : List Piece) (ms rest : List Mark) : Type 0 where
  pub value : A
  pub mid : List Mark
  pub read : p ms ≡ Some (value, mid)
  pub tail : Takes ps mid rest

pub number_behind : (n : ℕ) {ps : List Piece} {ms rest : List Mark} → InRange n → Takes (Free (Numeral n) ∷ ps) ms rest
    → (place : Position) × First number (n, place) ps ms rest
unfolding number
number_behind n small (free {place = place} {ms = ms} t) = (place, record { mid = ms; read = rw (lt-ltb n (2 ^ 63) small) refl; tail = t })

pub sign_first : (s : Symbol) {place : Position} {ps : List Piece} {ms rest : List Mark} → Takes (sign_at s place ∷ ps) ms rest → First (expect (is_sign s)) place ps ms rest
unfolding expect
sign_first s (kept {ms = ms} t) = record { mid = ms; read = rw (sign_self s) refl; tail = t }

pub sign_behind : (s : Symbol) {ps : List Piece} {ms rest : List Mark} → Takes (sign s ∷ ps) ms rest → Behind (expect (is_sign s)) ps ms rest
unfolding expect
sign_behind s (free {place = place} {ms = ms} t) = record { value = place; mid = ms; read = rw (sign_self s) refl; tail = t }

pub word_first : (k : Keyword) {place : Position} {ps : List Piece} {ms rest : List Mark} → Takes (Kept (Reserved k) place ∷ ps) ms rest → First (expect (is_reserved k)) place ps ms rest
unfolding expect
word_first k (kept {ms = ms} t) = record { mid = ms; read = rw (reserved_self k) refl; tail = t }

pub word_behind : (k : Keyword) {ps : List Piece} {ms rest : List Mark} → Takes (word k ∷ ps) ms rest → Behind (expect (is_reserved k)) ps ms rest
unfolding expect
word_behind k (free {place = place} {ms = ms} t) = record { value = place; mid = ms; read = rw (reserved_self k) refl; tail = t }

-- what the first lexeme is
pub sees_kept : (test : Lexeme → Bool) {l : Lexeme} {place : Position} {ps : List Piece} {ms rest : List Mark} → Takes (Kept l place ∷ ps) ms rest → sees test ms ≡ test l
unfolding sees
sees_kept test (kept t) = refl

pub sees_free : (test : Lexeme → Bool) {l : Lexeme} {ps : List Piece} {ms rest : List Mark} → Takes (Free l ∷ ps) ms rest → sees test ms ≡ test l
unfolding sees
sees_free test (free t) = refl

-- ---- what was read is spelled

pub name_read : {n : Name} {ms mid : List Mark} → name ms ≡ Some (n, mid) → Takes (named n ∷ []) ms mid
unfolding name
name_read {ms = []} e = absurd (cc)
name_read {ms = (Word w, place) ∷ ms} e = closes (λ n mid. Takes (named n ∷ []) ((Word w, place) ∷ ms) mid) (kept none) e
name_read {ms = m ∷ ms} e = absurd (cc)

pub string_read : {s : Quoted} {ms mid : List Mark} → string ms ≡ Some (s, mid) → Takes (text s ∷ []) ms mid
unfolding string
string_read {ms = []} e = absurd (cc)
string_read {ms = (String w, place) ∷ ms} e = closes (λ s mid. Takes (text s ∷ []) ((String w, place) ∷ ms) mid) (kept none) e
string_read {ms = m ∷ ms} e = absurd (cc)

pub quoted_read : {s : Quoted} {ms mid : List Mark} → quoted ms ≡ Some (s, mid) → Takes (literal s ∷ []) ms mid
unfolding quoted
quoted_read {ms = []} e = absurd (cc)
quoted_read {ms = (Literal w, place) ∷ ms} e = closes (λ s mid. Takes (literal s ∷ []) ((Literal w, place) ∷ ms) mid) (kept none) e
quoted_read {ms = m ∷ ms} e = absurd (cc)

pub number_read : {n : ℕ × Position} {ms mid : List Mark} → number ms ≡ Some (n, mid) → InRange n.0 × Takes (Kept (Numeral n.0) n.1 ∷ []) ms mid
unfolding number
number_read {ms = []} e = absurd (cc)
number_read {n = n} {ms = (Numeral k, place) ∷ ms} {mid = mid} e =
    either (nat_lt k (2 ^ 63)) e
    (λ small e. closes (λ (n : ℕ × Position) mid. InRange n.0 × Takes (Kept (Numeral n.0) n.1 ∷ []) ((Numeral k, place) ∷ ms) mid) (ltb-true k (2 ^ 63) small, kept none) e)
    (λ large e. absurd (cc))
number_read {ms = m ∷ ms} e = absurd (cc)

passed : (test : Lexeme → Bool) (l : Lexeme) → ((k : Lexeme) → test k ≡ true → k ≡ l) → {place : Position} {ms mid : List Mark} → expect test ms ≡ Some (place, mid) → Takes (Kept l place ∷ []) ms mid
unfolding expect
passed test l only {ms = []} e = absurd (cc)
passed test l only {ms = (k, p) ∷ ms} e =
    either (test k) e
    (λ passes e. closes (λ place mid. Takes (Kept l place ∷ []) ((k, p) ∷ ms) mid) (rw (only k passes) (kept none)) e)
    (λ fails e. absurd (cc))

pub dropped : {l : Lexeme} {place : Position} {ps : List Piece} {ms rest : List Mark} → Takes (Kept l place ∷ ps) ms rest → Takes (Free l ∷ ps) ms rest
dropped (kept t) = free t

pub sign_at_read : (s : Symbol) {place : Position} {ms mid : List Mark} → expect (is_sign s) ms ≡ Some (place, mid) → Takes (sign_at s place ∷ []) ms mid
sign_at_read s e = passed (is_sign s) (Sign s) (sign_only s) e

pub sign_read : (s : Symbol) {place : Position} {ms mid : List Mark} → expect (is_sign s) ms ≡ Some (place, mid) → Takes (sign s ∷ []) ms mid
sign_read s e = dropped (sign_at_read s e)

pub word_at_read : (k : Keyword) {place : Position} {ms mid : List Mark} → expect (is_reserved k) ms ≡ Some (place, mid) → Takes (Kept (Reserved k) place ∷ []) ms mid
word_at_read k e = passed (is_reserved k) (Reserved k) (reserved_only k) e

pub word_read : (k : Keyword) {place : Position} {ms mid : List Mark} → expect (is_reserved k) ms ≡ Some (place, mid) → Takes (word k ∷ []) ms mid
word_read k e = dropped (word_at_read k e)

-- ---- lists

-- how the items of a list are spelled and read: `test` says that one stands next, `Ends` what may stand behind one
pub record Items {A : Type 0} (test : List Mark → Bool) (one : Reader A) (s : A → List Piece) (Is : A → Type 0) (Ends : List Mark → Type 0) : Type 0 where
  pub reads : (a : A) {ms rest : List Mark} → Is a → Takes (s a) ms rest → Ends rest → one ms ≡ Some (a, rest)
  pub begins : (a : A) {ms rest : List Mark} → Takes (s a) ms rest → test ms ≡ true
  pub behind : (a : A) {ms rest : List Mark} → Takes (s a) ms rest → Ends ms
  pub some : (a : A) → 0 < length (s a)

may_follow : {A : Type 0} {test : List Mark → Bool} {one : Reader A} {s : A → List Piece} {Is : A → Type 0} {Ends : List Mark → Type 0} → Items test one s Is Ends
    → (xs : List A) {ms rest : List Mark} → Takes (flat_map s xs) ms rest → Ends rest → Ends ms
may_follow {Ends = Ends} items [] t end = subst Ends (sym (ends t)) end
may_follow {s = s} items (x ∷ xs) t end = let p = splits (s x) t in items.behind x p.1

pub more_reads : {A : Type 0} {test : List Mark → Bool} {one : Reader A} {s : A → List Piece} {Is : A → Type 0} {Ends : List Mark → Type 0} → Items test one s Is Ends
    → (xs : List A) (turns : ℕ) (found : List A) {ms rest : List Mark} → AllByRecursion Is xs → Takes (flat_map s xs) ms rest → Ends rest → test rest ≡ false → length ms ≤ turns
    → more test one turns found ms ≡ Some (found ++ xs, rest)
unfolding more
more_reads items [] zero found is t end over room = rw (append-nil found, ends t) refl
more_reads items [] (suc turns) found is t end over room = rw (append-nil found, ends t, over) refl
more_reads {s = s} items (x ∷ xs) zero found is t end over room =
    let p = splits (s x) t in absurd (omega (arith, shorter p.1, items.some x))
more_reads {s = s} items (x ∷ xs) (suc turns) found {ms = ms} {rest = rest} is t end over room =
    let p = splits (s x) t in
    let fewer : length p.0 ≤ turns = omega (arith, shorter p.1, items.some x) in
    let first = items.reads x is.0 p.1 (may_follow items xs p.2 end) in
    let others = more_reads items xs turns (found ++ x ∷ []) is.1 p.2 end over fewer in
    rw (items.begins x p.1, first) (others ∙ ap (λ (ys : List _). Some (ys, rest)) (append_assoc found (x ∷ []) xs))

pub record Listed {A : Type 0} (s : A → List Piece) (Is : A → Type 0) (found ys : List A) (ms rest : List Mark) : Type 0 where
  pub xs : List A
  pub all : ys ≡ found ++ xs
  pub each : AllByRecursion Is xs
  pub spelled : Takes (flat_map s xs) ms rest

pub more_read : {A : Type 0} (test : List Mark → Bool) (one : Reader A) (s : A → List Piece) (Is : A → Type 0)
    → ((a : A) (ms rest : List Mark) → one ms ≡ Some (a, rest) → Is a × Takes (s a) ms rest)
    → (turns : ℕ) (found : List A) {ys : List A} {ms rest : List Mark} → more test one turns found ms ≡ Some (ys, rest) → Listed s Is found ys ms rest
unfolding more
more_read test one s Is read zero found {ms = ms} e =
    closes (λ ys rest. Listed s Is found ys ms rest) (record { xs = []; all = sym (append-nil found); each = tt; spelled = none }) e
more_read test one s Is read (suc turns) found {ys = ys} {ms = ms} {rest = rest} e =
    either (test ms) e
    (λ passes e.
    let first = opens e in
    let is = read first.0 ms first.1 first.2 in
    let others = more_read test one s Is read turns (found ++ first.0 ∷ []) first.3 in
    record {
      xs = first.0 ∷ others.xs;
      all = others.all ∙ append_assoc found (first.0 ∷ []) others.xs;
      each = (is.0, others.each);
      spelled = is.1 then others.spelled;
    })
    (λ fails e. closes (λ ys rest. Listed s Is found ys ms rest) (record { xs = []; all = sym (append-nil found); each = tt; spelled = none }) e)

-- a list that begins with nothing
pub all_read : {A : Type 0} {s : A → List Piece} {Is : A → Type 0} {ys : List A} {ms rest : List Mark} → Listed s Is [] ys ms rest
    → AllByRecursion Is ys × Takes (flat_map s ys) ms rest
all_read {s = s} {Is = Is} {ms = ms} {rest = rest} l =
    let P : List _ → Type 0 = λ ys. AllByRecursion Is ys × Takes (flat_map s ys) ms rest in subst P (sym l.all) (l.each, l.spelled)

-- what was taken where it could be, and what was left where not
pub data Eaten : (Lexeme → Bool) → Bool → List Mark → List Mark → Type 0 where
  took : {test : Lexeme → Bool} {place : Position} {ms mid : List Mark} → expect test ms ≡ Some (place, mid) → Eaten test true ms mid
  left : {test : Lexeme → Bool} {ms : List Mark} → Eaten test false ms ms

eats : (b : Bool) (test : Lexeme → Bool) (l : Lexeme) (place : Position) (ms : List Mark) → test l ≡ b
    → Eaten test b ((l, place) ∷ ms) (cond b ms ((l, place) ∷ ms))
unfolding expect
eats true test l place ms is = took {place = place} (rw is refl)
eats false test l place ms is = left

pub eat_read : (test : Lexeme → Bool) {b : Bool} {ms mid : List Mark} → eat test ms ≡ Some (b, mid) → Eaten test b ms mid
unfolding eat sees
eat_read test {ms = []} e = closes (λ b mid. Eaten test b [] mid) left e
eat_read test {ms = (l, place) ∷ ms} e = closes (λ b mid. Eaten test b ((l, place) ∷ ms) mid) (eats (test l) test l place ms refl) e

pub alone : {l : Lexeme} {place : Position} {ms mid : List Mark} → Takes (Kept l place ∷ []) ms mid → ms ≡ (l, place) ∷ mid
alone (kept none) = refl

-- what stands behind a name that was read
pub after_name : {n : Name} {x : List Piece} {ms mid rest : List Mark} → name ms ≡ Some (n, mid) → Takes x ((Word n.text, n.place) ∷ mid) rest → Takes x ms rest
after_name {n = n} {x = x} {rest = rest} e t = let P : List Mark → Type 0 = λ ms. Takes x ms rest in subst P (sym (alone (name_read e))) t
