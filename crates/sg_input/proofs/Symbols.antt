-- The symbols of the productions of a sound specification and their numbers tell each other.
use Rattle.std.proofs.Common.{◌≡◌, ℕ, zero, suc, ◌+◌, ◌-◌, ◌<◌, ◌≤◌, ◌⊎◌, inl, inr, Bool, true, false, not, cond, ◌||◌, List, [], ◌∷◌, ◌++◌, length, get_or, map, refl, sym, ap, ◌∙◌, subst, arith, Some, None}
use Rattle.std.specs.Prelude.{Option, slice_get, option_map, unwrap_or, nat_lt, nat_eq, bytes_eq, All, Contains, MatchOption, IsTrue, ◌&&◌, option_and_then}
use Rattle.std.specs.List.{position_or_len, list_any, flat_map}
use Rattle.std.proofs.lemmas.Bool.{cases_Bool, and_parts, eqb-true}
use Rattle.std.proofs.lemmas.List.{length-append}
use Rattle.std.proofs.lemmas.List.Elements.{All-contains, All-cons, All-nil, All-head, All-tail}
use Rattle.std.proofs.lemmas.List.Folds.{position_or_len_push}
use Rattle.std.proofs.lemmas.List.Sums.{passes_at_first}
use Rattle.std.proofs.lemmas.Option.{same_Some, none-some, slice_get_within, slice_get-get_or}
use Rattle.std.proofs.lemmas.Slice.Eq.{bytes_eq-Decides}
use Rattle.sg_kinds.specs.Values.{Bytes}
use Rattle.sg_kinds.specs.Instances.{below}
use Rattle.sg_kinds.specs.SameValue.{both, nat_same}
use Rattle.sg_kinds.specs.Specification.{has_shape, is_lexical_shape}
use Rattle.sg_kinds.specs.Sound.{IsSound, lexeme_place, symbol_type, symbol_types}
use Rattle.sg_kinds.specs.Typing.{is_usable, is_typed}
use Rattle.sg_kinds.specs.declared.marks.Shape.{Shape}
use Rattle.sg_kinds.specs.declared.marks.Shape.TheVariants.{Lexemes}
use Rattle.sg_kinds.specs.declared.spec.Phylum.{Phylum}
use Rattle.sg_kinds.specs.declared.spec.Production.{Production}
use Rattle.sg_kinds.specs.declared.spec.Spec.{Spec}
use Rattle.sg_kinds.specs.declared.spec.Symbol.{Symbol}
use Rattle.sg_kinds.specs.declared.spec.Symbol.TheVariants.{Quoted, Lexical, Nonterminal}
use Rattle.sg_prec.specs.Precedence.{line_with, literal_between, infix_line, groups_left, groups_right, is_before_itself}
use Rattle.sg_prec.specs.Levels.{height, rank}
use Rattle.sg_prec.specs.Spread.{lowered, first_at, last_at, spread_right, spread_of}
use Rattle.sg_prec.specs.declared.productions.LevelSymbol.{LevelSymbol}
use Rattle.sg_prec.specs.declared.productions.LevelSymbol.TheVariants as level
use Rattle.sg_prec.specs.declared.productions.Spread.{Spread}
use Rattle.sg_prec.proofs.Ranks.{IsLine, line_known, level_high, rank_low}
use Rattle.sg_prec.proofs.Spreads.{spread_cases}
use Rattle.sg_patterns.specs.Lexemes.{with_text, literals_in, literals_over, literals_of}
use Rattle.sg_grammar.specs.Numbered.{first_literal, first_lexeme, first_nonterminal, lexeme_number, symbol_number}
use Rattle.sg_eval.proofs.TypeFacts.{there, cond_is}
use Rattle.sg_input.specs.Pieces.{has_pattern, terminal_of}

pub lt-true : (a b : ℕ) → a < b → nat_lt a b ≡ true
lt-true a b l = grind arith

pub lt-false : (a b : ℕ) → b ≤ a → nat_lt a b ≡ false
lt-false a b l = grind arith

-- ---- the literals stand once each

pub place-within : {X : Type 0} (p : X → Bool) (xs : List X) → list_any p xs ≡ true → position_or_len p xs < length xs
place-within p [] h = absurd (cc)
place-within p (x ∷ xs) h =
    elim (cases_Bool (p x)) [
      | inl e ↦ rw e (omega arith)
      | inr e ↦ let i = place-within p xs (let g : p x || list_any p xs ≡ true = h in rw e at g) in rw e (omega (arith, i))
    ]

place-none : {X : Type 0} (p : X → Bool) (xs : List X) → list_any p xs ≡ false → position_or_len p xs ≡ length xs
place-none p [] h = refl
place-none p (x ∷ xs) h =
    elim (cases_Bool (p x)) [
      | inl e ↦ let g : true ≡ false = (let k : p x || list_any p xs ≡ false = h in rw e at k) in absurd (cc)
      | inr e ↦ let i = place-none p xs (let g : p x || list_any p xs ≡ false = h in rw e at g) in rw e (omega (arith, i))
    ]

any-append : {X : Type 0} (p : X → Bool) (xs ys : List X) → list_any p xs ≡ true → list_any p (xs ++ ys) ≡ true
any-append p [] ys h = absurd (cc)
any-append p (x ∷ xs) ys h =
    elim (cases_Bool (p x)) [
      | inl e ↦ rw e refl
      | inr e ↦ let i = any-append p xs ys (let g : p x || list_any p xs ≡ true = h in rw e at g) in rw e i
    ]

any-last : {X : Type 0} (p : X → Bool) (xs : List X) (y : X) → p y ≡ true → list_any p (xs ++ y ∷ []) ≡ true
any-last p [] y h = rw h refl
any-last p (x ∷ xs) y h = let i = any-last p xs y h in elim (cases_Bool (p x)) [ inl e ↦ rw e refl | inr e ↦ rw e i ]

same-bytes : (s : Bytes) → bytes_eq s s ≡ true
same-bytes s = (bytes_eq-Decides s s).1 refl

pub any-with : (p : Bytes → Bool) (texts : List Bytes) (s : Bytes) → list_any p texts ≡ true → list_any p (with_text texts s) ≡ true
any-with p texts s h = elim (list_any (bytes_eq s) texts) as (λ b. list_any p (cond b texts (texts ++ s ∷ [])) ≡ true) [ true ↦ h | false ↦ any-append p texts (s ∷ []) h ]

any-this : (texts : List Bytes) (s : Bytes) → list_any (bytes_eq s) (with_text texts s) ≡ true
any-this texts s =
    elim (cases_Bool (list_any (bytes_eq s) texts)) [
      | inl e ↦ subst (λ b. list_any (bytes_eq s) (cond b texts (texts ++ s ∷ [])) ≡ true) (sym e) e
      | inr e ↦ subst (λ b. list_any (bytes_eq s) (cond b texts (texts ++ s ∷ [])) ≡ true) (sym e) (any-last (bytes_eq s) texts s (same-bytes s))
    ]

any-in : (p : Bytes → Bool) (texts : List Bytes) (Xs : List Symbol) → list_any p texts ≡ true → list_any p (literals_in texts Xs) ≡ true
any-in p texts [] h = h
any-in p texts (Quoted s ∷ Xs) h = any-in p (with_text texts s) Xs (any-with p texts s h)
any-in p texts (Lexical q ∷ Xs) h = any-in p texts Xs h
any-in p texts (Nonterminal n ∷ Xs) h = any-in p texts Xs h

any-over : (p : Bytes → Bool) (texts : List Bytes) (rs : List Production) → list_any p texts ≡ true → list_any p (literals_over texts rs) ≡ true
any-over p texts [] h = h
any-over p texts (r ∷ rs) h = any-over p (literals_in texts r.right) rs (any-in p texts r.right h)

-- each text stands first at its own place
abbrev ArePlaced : List Bytes → Type 0
ArePlaced texts = (k : ℕ) → k < length texts → position_or_len (bytes_eq (get_or texts k [])) texts ≡ k

cond-past : (n k : ℕ) (b : Bool) → k < n → cond (nat_eq k n) (n + cond b 0 1) k ≡ k
cond-past n k b l = let e : nat_eq k n ≡ false = grind arith in rw e refl

cond-at : (n k : ℕ) → k ≡ n → cond (nat_eq n n) (n + 0) k ≡ k
cond-at n k e = rw (nat_same n) (omega (arith, e))

last-at : (texts : List Bytes) (s : Bytes) (k : ℕ) → k ≡ length texts → get_or (texts ++ s ∷ []) k [] ≡ s
last-at [] s zero e = refl
last-at [] s (suc k) e = absurd (omega (arith, e))
last-at (t ∷ texts) s zero e = absurd (omega (arith, e))
last-at (t ∷ texts) s (suc k) e = last-at texts s k (omega (arith, e))

front-at : (texts : List Bytes) (s : Bytes) (k : ℕ) → k < length texts → get_or (texts ++ s ∷ []) k [] ≡ get_or texts k []
front-at [] s k l = absurd (omega (arith, l))
front-at (t ∷ texts) s zero l = refl
front-at (t ∷ texts) s (suc k) l = front-at texts s k (omega (arith, l))

placed-more : (texts : List Bytes) (s : Bytes) → ArePlaced texts → list_any (bytes_eq s) texts ≡ false → ArePlaced (texts ++ s ∷ [])
placed-more texts s h none k l =
    let long = length-append texts (s ∷ []) in
    elim (cases_order-below k (length texts) (omega (arith, l, long))) [
      | inl low ↦
          let here : bytes_eq (get_or (texts ++ s ∷ []) k []) ≡ bytes_eq (get_or texts k []) = ap bytes_eq (front-at texts s k low) in
          let P = bytes_eq (get_or texts k []) in
          ap (λ p. position_or_len p (texts ++ s ∷ [])) here ∙ (position_or_len_push P texts s ∙ (ap (λ n. cond (nat_eq n (length texts)) (length texts + cond (P s) 0 1) n) (h k low) ∙ cond-past (length texts) k (P s) low))
      | inr e ↦
          let here : bytes_eq (get_or (texts ++ s ∷ []) k []) ≡ bytes_eq s = ap bytes_eq (last-at texts s k e) in
          let at : position_or_len (bytes_eq s) texts ≡ length texts = place-none (bytes_eq s) texts none in
          ap (λ p. position_or_len p (texts ++ s ∷ [])) here ∙ (position_or_len_push (bytes_eq s) texts s ∙ (ap (λ n. cond (nat_eq n (length texts)) (length texts + cond (bytes_eq s s) 0 1) n) at ∙ (ap (λ b. cond (nat_eq (length texts) (length texts)) (length texts + cond b 0 1) (length texts)) (same-bytes s) ∙ (cond-at (length texts) (length texts) refl ∙ sym e))))
    ]
  where
    cases_order-below : (a b : ℕ) → a < suc b → (a < b) ⊎ (a ≡ b)
    cases_order-below a b l = grind arith

placed-with : (texts : List Bytes) (s : Bytes) → ArePlaced texts → ArePlaced (with_text texts s)
placed-with texts s h = by (list_any (bytes_eq s) texts) refl
  where
    by : (b : Bool) → list_any (bytes_eq s) texts ≡ b → ArePlaced (cond (list_any (bytes_eq s) texts) texts (texts ++ s ∷ []))
    by true e = subst (λ c. ArePlaced (cond c texts (texts ++ s ∷ []))) (sym e) h
    by false e = subst (λ c. ArePlaced (cond c texts (texts ++ s ∷ []))) (sym e) (placed-more texts s h e)

placed-in : (texts : List Bytes) (Xs : List Symbol) → ArePlaced texts → ArePlaced (literals_in texts Xs)
placed-in texts [] h = h
placed-in texts (Quoted s ∷ Xs) h = placed-in (with_text texts s) Xs (placed-with texts s h)
placed-in texts (Lexical q ∷ Xs) h = placed-in texts Xs h
placed-in texts (Nonterminal n ∷ Xs) h = placed-in texts Xs h

placed-over : (texts : List Bytes) (rs : List Production) → ArePlaced texts → ArePlaced (literals_over texts rs)
placed-over texts [] h = h
placed-over texts (r ∷ rs) h = placed-over (literals_in texts r.right) rs (placed-in texts r.right h)

placed : (rs : List Production) → ArePlaced (literals_of rs)
placed rs = placed-over [] rs (λ k l. absurd (omega (arith, l)))

-- ---- the lexeme phyla have their patterns in order

from : ℕ → ℕ → List ℕ
from a zero = []
from a (suc n) = a ∷ from (suc a) n

from-last : (a n : ℕ) → from a (suc n) ≡ from a n ++ (a + n) ∷ []
unfolding from
from-last a zero = ap (λ z. z ∷ []) (omega arith)
from-last a (suc n) = ap (λ z. a ∷ z) (from-last (suc a) n ∙ ap (λ z. from (suc a) n ++ z ∷ []) (omega arith))

below-from : (n : ℕ) → below n ≡ from 0 n
unfolding from
below-from zero = refl
below-from (suc n) = ap (λ z. z ++ n ∷ []) (below-from n) ∙ (ap (λ z. from 0 n ++ z ∷ []) (omega arith) ∙ sym (from-last 0 n))

abbrev places : List Phylum → List ℕ
places xs = flat_map (λ (x : Phylum). lexeme_place x.shape) xs

-- a list that begins with a number goes up from it
from-head : (m a n : ℕ) (ms : List ℕ) → m ∷ ms ≡ from a n → (k : ℕ) × (n ≡ suc k) × (m ≡ a) × (ms ≡ from (suc a) k)
unfolding from
from-head m a zero ms e = absurd (cc)
from-head m a (suc n) ms e = (n, refl, cc, cc)

pub record Lexed (xs : List Phylum) (a n l p : ℕ) : Type 0 where
  pub low : a ≤ l
  pub high : l < a + n
  pub place : position_or_len (λ (x : Phylum). has_pattern l x.shape) xs ≡ p

lexed-skip : (y : Phylum) (ys : List Phylum) (a n l p : ℕ) → has_pattern l y.shape ≡ false → Lexed ys a n l p → Lexed (y ∷ ys) a n l (suc p)
lexed-skip y ys a n l p e L = record {
  low = L.low;
  high = L.high;
  place = ap (λ b. cond (not b) (1 + position_or_len (λ (x : Phylum). has_pattern l x.shape) ys) 0) e ∙ (let q = L.place in omega (arith, q));
}

not-same : (l m : ℕ) → m < l → nat_eq l m ≡ false
not-same l m h = grind arith

lexed : (xs : List Phylum) (a n l p : ℕ) (x : Phylum) → places xs ≡ from a n → slice_get xs p ≡ Some x → x.shape ≡ Lexemes l → Lexed xs a n l p
lexed [] a n l p x all at is = absurd (none-some x at)
lexed (y ∷ ys) a n l p x all at is = by y.shape refl p at (λ b k q f g. lexed ys b k l q x f g is)
  where
    by : (s : Shape) → y.shape ≡ s → (q : ℕ) → slice_get (y ∷ ys) q ≡ Some x → ((b k j : ℕ) → places ys ≡ from b k → slice_get ys j ≡ Some x → Lexed ys b k l j) → Lexed (y ∷ ys) a n l q
    by (Lexemes m) e zero f later =
        let same : Lexemes m ≡ Lexemes l = sym e ∙ (ap (λ (z : Phylum). z.shape) (same_Some y x f) ∙ is) in
        let eq : m ≡ l = cc in
        let h = from-head m a n (places ys) (ap (λ s. lexeme_place s ++ places ys) (sym e) ∙ all) in
        let k = h.1 in
        let first = h.2 in
        record {
          low = omega (arith, first, eq);
          high = omega (arith, first, eq, k);
          place = ap (λ s. cond (not (has_pattern l s)) (1 + position_or_len (λ (z : Phylum). has_pattern l z.shape) ys) 0) e ∙ ap (λ b. cond (not b) (1 + position_or_len (λ (z : Phylum). has_pattern l z.shape) ys) 0) (ap (nat_eq l) eq ∙ nat_same l);
        }
    by (Lexemes m) e (suc q) f later =
        let h = from-head m a n (places ys) (ap (λ s. lexeme_place s ++ places ys) (sym e) ∙ all) in
        let k = h.1 in
        let first = h.2 in
        let L = later (suc a) h.0 q h.3 f in
        let low = L.low in
        let high = L.high in
        lexed-skip y ys a n l q (ap (has_pattern l) e ∙ not-same l m (omega (arith, first, low)))
        (record { low = omega (arith, low); high = omega (arith, high, k); place = L.place })
    by s e zero f later = let same : s ≡ Lexemes l = sym e ∙ (ap (λ (z : Phylum). z.shape) (same_Some y x f) ∙ is) in cc
    by s e (suc q) f later = lexed-skip y ys a n l q (ap (has_pattern l) e) (later a n q (ap (λ z. lexeme_place z ++ places ys) (sym e) ∙ all) f)

abbrev Found : List Phylum → ℕ → Type 0
Found xs l = (p : ℕ) × (x : Phylum) × (slice_get xs p ≡ Some x) × (x.shape ≡ Lexemes l)

found-later : (y : Phylum) (ys : List Phylum) (l : ℕ) → Found ys l → Found (y ∷ ys) l
found-later y ys l f = (suc f.0, f.1, f.2, f.3)

below-or : (a l : ℕ) → a ≤ l → (l ≡ a) ⊎ (suc a ≤ l)
below-or a l h = grind arith

found : (xs : List Phylum) (a n l : ℕ) → places xs ≡ from a n → a ≤ l → l < a + n → Found xs l
unfolding from
found [] a zero l all low high = absurd (omega (arith, low, high))
found [] a (suc n) l all low high = absurd (cc)
found (y ∷ ys) a n l all low high = by y.shape refl (λ b k e f g. found ys b k l e f g)
  where
    by : (s : Shape) → y.shape ≡ s → ((b k : ℕ) → places ys ≡ from b k → b ≤ l → l < b + k → Found ys l) → Found (y ∷ ys) l
    by (Lexemes m) e later =
        let h = from-head m a n (places ys) (ap (λ s. lexeme_place s ++ places ys) (sym e) ∙ all) in
        let k = h.1 in
        let first = h.2 in
        elim (below-or a l low) [
          | inl same ↦ (zero, y, refl, e ∙ ap Lexemes (first ∙ sym same))
          | inr more ↦ found-later y ys l (later (suc a) h.0 h.3 more (omega (arith, high, k)))
        ]
    by s e later = found-later y ys l (later a n (ap (λ z. lexeme_place z ++ places ys) (sym e) ∙ all) low high)

-- ---- symbols and numbers

module _ (spec : Spec) (sound : IsSound spec) where
  all-places : places spec.phyla ≡ from 0 (length spec.lexemes)
  all-places = sound.shapes.lexemes ∙ below-from (length spec.lexemes)

  -- a literal of the productions, a lexeme phylum, any nonterminal
  abbrev pub IsSymbol : Symbol → Type 0
  IsSymbol (Quoted s) = list_any (bytes_eq s) (literals_of spec.productions) ≡ true
  IsSymbol (Lexical p) = (l : ℕ) × (x : Phylum) × (slice_get spec.phyla p ≡ Some x) × (x.shape ≡ Lexemes l)
  IsSymbol (Nonterminal n) = Unit {0}

  pub literal-number : (s : Bytes) → IsSymbol (Quoted s) → (first_literal spec ≤ symbol_number spec (Quoted s)) × (symbol_number spec (Quoted s) < first_lexeme spec)
  literal-number s h = let w = place-within (bytes_eq s) (literals_of spec.productions) h in (omega arith, omega (arith, w))

  pub lexical-is : (p l : ℕ) (x : Phylum) → slice_get spec.phyla p ≡ Some x → x.shape ≡ Lexemes l → (l < length spec.lexemes) × (symbol_number spec (Lexical p) ≡ first_lexeme spec + l)
  lexical-is p l x at is =
      let L = lexed spec.phyla 0 (length spec.lexemes) l p x all-places at is in
      let high = L.high in
      let low : l < length spec.lexemes = omega (arith, high) in
      (low, ap (λ o. unwrap_or (option_map (λ (z : Phylum). lexeme_number spec z.shape) o) 0) at ∙ (ap (lexeme_number spec) is ∙ ap (λ b. cond b (first_lexeme spec + l) 0) (lt-true l (length spec.lexemes) low)))

  pub lexeme-number : (p : ℕ) → IsSymbol (Lexical p) → (first_lexeme spec ≤ symbol_number spec (Lexical p)) × (symbol_number spec (Lexical p) < first_nonterminal spec)
  lexeme-number p h = let n = lexical-is p h.0 h.1 h.2 h.3 in let low = n.0 in let e = n.1 in (omega (arith, e), omega (arith, e, low))

  -- the symbol of a number, and the number of a symbol
  pub literal-back : (s : Bytes) → IsSymbol (Quoted s) → terminal_of spec (symbol_number spec (Quoted s)) ≡ Quoted s
  literal-back s h =
      let L = literals_of spec.productions in
      let k = position_or_len (bytes_eq s) L in
      let n = first_literal spec + k in
      let low = literal-number s h in
      let back : n - first_literal spec ≡ k = omega arith in
      let is : bytes_eq s (get_or L k []) ≡ true = passes_at_first (bytes_eq s) L [] (place-within (bytes_eq s) L h) in
      ap (λ b. cond b (Quoted (get_or L (n - first_literal spec) [])) (Lexical (position_or_len (λ (x : Phylum). has_pattern (n - first_lexeme spec) x.shape) spec.phyla))) (lt-true n (first_lexeme spec) low.1)
      ∙ (ap (λ z. Quoted (get_or L z [])) back ∙ ap Quoted (sym ((bytes_eq-Decides s (get_or L k [])).0 is)))

  pub lexeme-back : (p : ℕ) → IsSymbol (Lexical p) → terminal_of spec (symbol_number spec (Lexical p)) ≡ Lexical p
  lexeme-back p h =
      let L = literals_of spec.productions in
      let l = h.0 in
      let n = symbol_number spec (Lexical p) in
      let e = (lexical-is p l h.1 h.2 h.3).1 in
      let low = lexeme-number p h in
      let back : n - first_lexeme spec ≡ l = omega (arith, e) in
      ap (λ b. cond b (Quoted (get_or L (n - first_literal spec) [])) (Lexical (position_or_len (λ (x : Phylum). has_pattern (n - first_lexeme spec) x.shape) spec.phyla))) (lt-false n (first_lexeme spec) low.0)
      ∙ (ap (λ z. Lexical (position_or_len (λ (x : Phylum). has_pattern z x.shape) spec.phyla)) back ∙ ap Lexical (lexed spec.phyla 0 (length spec.lexemes) l p h.1 all-places h.2 h.3).place)

  pub terminal-back : (t : ℕ) → first_literal spec ≤ t → t < first_nonterminal spec → symbol_number spec (terminal_of spec t) ≡ t
  terminal-back t low high = by (nat_lt t (first_lexeme spec)) refl
    where
      L : List Bytes
      L = literals_of spec.productions

      by : (b : Bool) → nat_lt t (first_lexeme spec) ≡ b → symbol_number spec (terminal_of spec t) ≡ t
      by true e =
          let less : t < first_lexeme spec = grind arith in
          let at = placed spec.productions (t - first_literal spec) (omega (arith, less, low)) in
          ap (λ b. symbol_number spec (cond b (Quoted (get_or (literals_of spec.productions) (t - first_literal spec) [])) (Lexical (position_or_len (λ (x : Phylum). has_pattern (t - first_lexeme spec) x.shape) spec.phyla)))) e
          ∙ omega (arith, at, low)
      by false e =
          let more : first_lexeme spec ≤ t = grind arith in
          let f = found spec.phyla 0 (length spec.lexemes) (t - first_lexeme spec) all-places (omega arith) (omega (arith, high, more)) in
          let at = (lexed spec.phyla 0 (length spec.lexemes) (t - first_lexeme spec) f.0 f.1 all-places f.2 f.3).place in
          let n = (lexical-is f.0 (t - first_lexeme spec) f.1 f.2 f.3).1 in
          ap (λ b. symbol_number spec (cond b (Quoted (get_or (literals_of spec.productions) (t - first_literal spec) [])) (Lexical (position_or_len (λ (x : Phylum). has_pattern (t - first_lexeme spec) x.shape) spec.phyla)))) e
          ∙ (ap (λ z. symbol_number spec (Lexical z)) at ∙ omega (arith, n, more))

  -- ---- what stands in productions

  literal-in : (s : Bytes) (texts : List Bytes) (Xs : List Symbol) (k : ℕ) → slice_get Xs k ≡ Some (Quoted s) → list_any (bytes_eq s) (literals_in texts Xs) ≡ true
  literal-in s texts [] k e = absurd (none-some (Quoted s) e)
  literal-in s texts (Quoted t ∷ Xs) zero e =
      let same : t ≡ s = (let f : Quoted t ≡ Quoted s = same_Some (Quoted t) (Quoted s) e in cc) in
      any-in (bytes_eq s) (with_text texts t) Xs (subst (λ z. list_any (bytes_eq s) (with_text texts z) ≡ true) (sym same) (any-this texts s))
  literal-in s texts (Lexical q ∷ Xs) zero e = let f : Lexical q ≡ Quoted s = same_Some (Lexical q) (Quoted s) e in absurd (cc)
  literal-in s texts (Nonterminal n ∷ Xs) zero e = let f : Nonterminal n ≡ Quoted s = same_Some (Nonterminal n) (Quoted s) e in absurd (cc)
  literal-in s texts (Quoted t ∷ Xs) (suc k) e = literal-in s (with_text texts t) Xs k e
  literal-in s texts (Lexical q ∷ Xs) (suc k) e = literal-in s texts Xs k e
  literal-in s texts (Nonterminal n ∷ Xs) (suc k) e = literal-in s texts Xs k e

  literal-over : (s : Bytes) (texts : List Bytes) (rs : List Production) (n k : ℕ) (r : Production) → slice_get rs n ≡ Some r → slice_get r.right k ≡ Some (Quoted s) → list_any (bytes_eq s) (literals_over texts rs) ≡ true
  literal-over s texts [] n k r e f = absurd (none-some r e)
  literal-over s texts (q ∷ rs) zero k r e f = any-over (bytes_eq s) (literals_in texts q.right) rs (literal-in s texts q.right k (ap (λ (z : Production). slice_get z.right k) (same_Some q r e) ∙ f))
  literal-over s texts (q ∷ rs) (suc n) k r e f = literal-over s (literals_in texts q.right) rs n k r e f

  lexical-shape : (s : Shape) → is_lexical_shape s ≡ true → (l : ℕ) × (s ≡ Lexemes l)
  lexical-shape (Lexemes l) h = (l, refl)
  lexical-shape s h = absurd (cc)

  -- a symbol that has a type stands for something
  typed-symbol : (X : Symbol) (ps : List ℕ) → symbol_type spec X ≡ Some ps → ((s : Bytes) → X ≡ Quoted s → list_any (bytes_eq s) (literals_of spec.productions) ≡ true) → IsSymbol X
  typed-symbol (Quoted s) ps h known = known s refl
  typed-symbol (Nonterminal n) ps h known = tt
  typed-symbol (Lexical p) ps h known =
      let c = cond_is (has_shape spec.phyla is_lexical_shape p && is_usable spec p) (Some (p ∷ [])) ps h in
      let b = (both (has_shape spec.phyla is_lexical_shape p) (is_usable spec p) c.0).0 in
      by (slice_get spec.phyla p) refl b
    where
      by : (o : Option Phylum) → slice_get spec.phyla p ≡ o → unwrap_or (option_map (λ (x : Phylum). is_lexical_shape x.shape) (slice_get spec.phyla p)) false ≡ true → IsSymbol (Lexical p)
      by None e b = let n : false ≡ true = rw e at b in absurd (cc)
      by (Some x) e b = let s = lexical-shape x.shape (rw e at b) in (s.0, x, e, s.1)

  pub both-types : (X : Symbol) (Xs : List Symbol) (G : List ℕ) → symbol_types spec (X ∷ Xs) ≡ Some G → (ps : List ℕ) × (symbol_type spec X ≡ Some ps) × (qs : List ℕ) × (symbol_types spec Xs ≡ Some qs) × (ps ++ qs ≡ G)
  both-types X Xs G h = by (symbol_type spec X) refl h
    where
      rest : (o : Option (List ℕ)) (ps : List ℕ) → symbol_types spec Xs ≡ o → symbol_type spec X ≡ Some ps → option_map (λ qs. ps ++ qs) o ≡ Some G → (ps : List ℕ) × (symbol_type spec X ≡ Some ps) × (qs : List ℕ) × (symbol_types spec Xs ≡ Some qs) × (ps ++ qs ≡ G)
      rest None ps e f i = absurd (none-some G i)
      rest (Some qs) ps e f i = (ps, f, qs, e, same_Some (ps ++ qs) G i)

      by : (o : Option (List ℕ)) → symbol_type spec X ≡ o → option_and_then (λ ps. option_map (λ qs. ps ++ qs) (symbol_types spec Xs)) o ≡ Some G → (ps : List ℕ) × (symbol_type spec X ≡ Some ps) × (qs : List ℕ) × (symbol_types spec Xs ≡ Some qs) × (ps ++ qs ≡ G)
      by None e i = absurd (none-some G i)
      by (Some ps) e i = rest (symbol_types spec Xs) ps refl e i

  typed-symbols : (Xs : List Symbol) (G : List ℕ) → symbol_types spec Xs ≡ Some G → ((k : ℕ) (s : Bytes) → slice_get Xs k ≡ Some (Quoted s) → list_any (bytes_eq s) (literals_of spec.productions) ≡ true) → All IsSymbol Xs
  typed-symbols [] G h known = All-nil IsSymbol
  typed-symbols (X ∷ Xs) G h known = let two = both-types X Xs G h in All-cons IsSymbol X Xs (typed-symbol X two.0 two.1 (λ s same. known zero s (ap Some same))) (typed-symbols Xs two.2 two.3 (λ k s at. known (suc k) s at))

  pub right-types : (n : ℕ) (r : Production) → slice_get spec.productions n ≡ Some r → (G : List ℕ) × (symbol_types spec r.right ≡ Some G)
  right-types n r at =
      let low = slice_get_within spec.productions n r at in
      let t = All-contains (λ (q : Production). MatchOption (symbol_types spec q.right) ⊥ (λ G. IsTrue (is_typed spec G q.expr q.of))) spec.productions r sound.typed.productions (contains-at spec.productions n r at) in
      let m = there (symbol_types spec r.right) _ t in
      (m.0, m.1)
    where
      contains-at : (rs : List Production) (k : ℕ) (q : Production) → slice_get rs k ≡ Some q → Contains rs q
      contains-at [] k q e = absurd (none-some q e)
      contains-at (x ∷ rs) zero q e = (zero, omega arith, same_Some x q e)
      contains-at (x ∷ rs) (suc k) q e = let i = contains-at rs k q e in (suc i.0, (let l = i.1 in omega (arith, l)), i.2)

  pub symbols-of : (n : ℕ) (r : Production) → slice_get spec.productions n ≡ Some r → All IsSymbol r.right
  symbols-of n r at =
      let t = right-types n r at in
      typed-symbols r.right t.0 t.1 (λ k s e. literal-over s [] spec.productions n k r at e)

  -- ---- the symbols of the spread grammar

  -- a terminal of the productions, or a level that its nonterminal has
  abbrev pub IsLevelSymbol : LevelSymbol → Type 0
  IsLevelSymbol (level.Quoted s) = IsSymbol (Quoted s)
  IsLevelSymbol (level.Lexical p) = IsSymbol (Lexical p)
  IsLevelSymbol (level.Level N i) = i ≤ height spec.levels spec.productions N

  lowered-fits : (X : Symbol) → IsSymbol X → IsLevelSymbol (lowered 0 X)
  lowered-fits (Quoted s) h = h
  lowered-fits (Lexical p) h = h
  lowered-fits (Nonterminal N) h = omega arith

  first-fits : (Xs : List Symbol) → All IsSymbol Xs → All IsLevelSymbol (map (lowered 0) Xs)
  first-fits [] h = All-nil IsLevelSymbol
  first-fits (X ∷ Xs) h = All-cons IsLevelSymbol (lowered 0 X) (map (lowered 0) Xs) (lowered-fits X (All-head IsSymbol X Xs h)) (first-fits Xs (All-tail IsSymbol X Xs h))

  module _ (N : ℕ) where
    operand-low : (same : Bool) (k : ℕ) → IsLine spec.levels spec.productions N k
        → cond same (rank spec.levels spec.productions N k) (suc (rank spec.levels spec.productions N k)) ≤ height spec.levels spec.productions N
    operand-low true k line = let low = rank_low spec.levels spec.productions N k line in omega (arith, low)
    operand-low false k line = let low = rank_low spec.levels spec.productions N k line in omega (arith, low)

    prefix-fits : (s : Bytes) (a : ℕ) → N ≡ a → All IsSymbol (Quoted s ∷ Nonterminal a ∷ []) → All IsLevelSymbol (map (lowered (height spec.levels spec.productions N)) (Quoted s ∷ Nonterminal a ∷ []))
    prefix-fits s a is h =
        let high = height spec.levels spec.productions N in
        let same = ap (height spec.levels spec.productions) is in
        All-cons IsLevelSymbol (level.Quoted s) (level.Level a high ∷ []) (All-head IsSymbol (Quoted s) (Nonterminal a ∷ []) h)
        (All-cons IsLevelSymbol (level.Level a high) [] (omega (arith, same)) (All-nil IsLevelSymbol))

    infix-fits : (s : Bytes) (a b k : ℕ) → N ≡ a → N ≡ b → IsLine spec.levels spec.productions N k → All IsSymbol (Nonterminal a ∷ Quoted s ∷ Nonterminal b ∷ [])
        → All IsLevelSymbol (spread_right spec.levels spec.productions N (Some k) false (Nonterminal a ∷ Quoted s ∷ Nonterminal b ∷ []))
    infix-fits s a b k is also line h =
        let r = rank spec.levels spec.productions N k in
        let i = first_at spec.levels k r in
        let j = last_at spec.levels k r in
        let first = subst (λ M. i ≤ height spec.levels spec.productions M) is (operand-low (groups_left spec.levels k) k line) in
        let last = subst (λ M. j ≤ height spec.levels spec.productions M) also (operand-low (groups_right spec.levels k) k line) in
        let middle = All-head IsSymbol (Quoted s) (Nonterminal b ∷ []) (All-tail IsSymbol (Nonterminal a) (Quoted s ∷ Nonterminal b ∷ []) h) in
        All-cons IsLevelSymbol (level.Level a i) (level.Quoted s ∷ level.Level b j ∷ []) first
        (All-cons IsLevelSymbol (level.Quoted s) (level.Level b j ∷ []) middle (All-cons IsLevelSymbol (level.Level b j) [] last (All-nil IsLevelSymbol)))

    right-fits : (Xs : List Symbol) → All IsSymbol Xs → ((k : ℕ) → option_and_then (line_with spec.levels) (literal_between N Xs) ≡ Some k → IsLine spec.levels spec.productions N k)
        → All IsLevelSymbol (spread_right spec.levels spec.productions N (option_and_then (line_with spec.levels) (literal_between N Xs)) (is_before_itself N Xs) Xs)
    right-fits (Nonterminal a ∷ Quoted s ∷ Nonterminal b ∷ []) h own = either (nat_eq N a && nat_eq N b) refl
      where
        with-line : N ≡ a → N ≡ b → (o : Option ℕ) → ((k : ℕ) → o ≡ Some k → IsLine spec.levels spec.productions N k)
            → All IsLevelSymbol (spread_right spec.levels spec.productions N o false (Nonterminal a ∷ Quoted s ∷ Nonterminal b ∷ []))
        with-line is also None line = first-fits (Nonterminal a ∷ Quoted s ∷ Nonterminal b ∷ []) h
        with-line is also (Some k) line = infix-fits s a b k is also (line k refl) h

        either : (c : Bool) → (nat_eq N a && nat_eq N b) ≡ c
            → All IsLevelSymbol (spread_right spec.levels spec.productions N (option_and_then (line_with spec.levels) (cond c (Some s) None)) false (Nonterminal a ∷ Quoted s ∷ Nonterminal b ∷ []))
        either false e = first-fits (Nonterminal a ∷ Quoted s ∷ Nonterminal b ∷ []) h
        either true e =
            let both = and_parts (nat_eq N a) (nat_eq N b) e in
            with-line (eqb-true N a both.0) (eqb-true N b both.1) (line_with spec.levels s) (λ k at. own k (ap (λ c. option_and_then (line_with spec.levels) (cond c (Some s) None)) e ∙ at))
    right-fits (Quoted s ∷ Nonterminal a ∷ []) h own = either (nat_eq N a) refl
      where
        either : (c : Bool) → nat_eq N a ≡ c → All IsLevelSymbol (spread_right spec.levels spec.productions N None c (Quoted s ∷ Nonterminal a ∷ []))
        either false e = first-fits (Quoted s ∷ Nonterminal a ∷ []) h
        either true e = prefix-fits s a (eqb-true N a e) h
    right-fits Xs h own = first-fits Xs h

  pub spread-symbols : (x : Spread) → Contains (spread_of spec.levels spec.productions) x → All IsLevelSymbol x.right
  spread-symbols x has = elim (spread_cases spec.levels spec.productions x has) [
    | inl (r, there, is) ↦
        let at = slice_get-get_or spec.productions there.0 r there.1 ∙ ap Some there.2 in
        subst (λ (z : Spread). All IsLevelSymbol z.right) is (right-fits r.left r.right (symbols-of there.0 r at) (line_known spec.levels spec.productions r there))
    | inr (N, i, low, is) ↦ subst (λ (z : Spread). All IsLevelSymbol z.right) is (All-cons IsLevelSymbol (level.Level N (suc i)) [] (omega (arith, low)) (All-nil IsLevelSymbol))
  ]

  pub spread-level : (x : Spread) → Contains (spread_of spec.levels spec.productions) x → x.level ≤ height spec.levels spec.productions x.left
  spread-level x has = elim (spread_cases spec.levels spec.productions x has) [
    | inl (r, there, is) ↦ subst (λ (z : Spread). z.level ≤ height spec.levels spec.productions z.left) is (level_high spec.levels spec.productions r.left (infix_line spec.levels r) (line_known spec.levels spec.productions r there))
    | inr (N, i, low, is) ↦ subst (λ (z : Spread). z.level ≤ height spec.levels spec.productions z.left) is (omega (arith, low))
  ]
