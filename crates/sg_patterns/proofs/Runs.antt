-- Reading a text byte by byte, and that every pattern is read.
use Rattle.std.proofs.Common.{◌≡◌, ℕ, suc, ◌+◌, ◌<◌, ◌≤◌, Bool, true, false, ◌&&◌, List, [], ◌∷◌, ◌++◌, length, refl, sym, ap, ◌∙◌, subst, arith, Option, Some, None}
use Rattle.std.specs.Prelude.{nat_lt, nat_le, cond}
use Rattle.sg_kinds.specs.Values.{Bytes, is_text_byte}
use Rattle.sg_kinds.specs.Lexemes.{Lexeme, Byte, Dot, Class, Many, Several, Maybe}
use Rattle.sg_patterns.specs.declared.kinds.Kind.{Kind}
use Rattle.sg_patterns.specs.declared.kinds.Kind.TheVariants as kind
use Rattle.sg_patterns.specs.declared.reader.Inside.TheVariants.{Open, Start, Low, Done, Dash, StartEscape, EndEscape}
use Rattle.sg_patterns.specs.Kinds.{kind_of, is_special, is_plain, is_plain_inside, bar, star, plus, query, left_parenthesis, right_parenthesis, left_bracket, right_bracket, full_stop, backslash, caret, dash}
use Rattle.std.proofs.lemmas.Bool.{leb-true, leb-false, le-leb, lt-ltb, ne_eqb}
use Rattle.sg_patterns.specs.Spelling as spell
use Rattle.sg_patterns.specs.Spelling.{IsRangeByte, IsRange, AreRanges, IsPattern, IsSequence, IsRun, IsPiece, IsBase, deepest}
use Rattle.sg_patterns.specs.Machine.{Frame, State, Ready, Held, Escape, Bracket, empty_frame, with_piece, joined, whole, barred, feed_ready, feed_held, feed_start, feed_next, feed_inside, feed_end, feed, greatest_special}

-- reading a text leads from one state to another
pub data Runs : State → Bytes → State → Type 0 where
  stay : (σ : State) → Runs σ [] σ
  step : (σ τ υ : State) (b : ℕ) (s : Bytes) → feed σ b ≡ Some τ → Runs τ s υ → Runs σ (b ∷ s) υ

pub runs-append : (σ τ υ : State) (s t : Bytes) → Runs σ s τ → Runs τ t υ → Runs σ (s ++ t) υ
runs-append σ τ υ s t (stay a) r = r
runs-append σ τ υ s t (step a ρ c b s' is q) r = step a ρ υ b (s' ++ t) is (runs-append ρ c υ s' t q r)

pub runs-one : (σ τ : State) (b : ℕ) → feed σ b ≡ Some τ → Runs σ (b ∷ []) τ
runs-one σ τ b is = step σ τ τ b [] is (stay τ)

-- the first part of a text is read first
pub runs-split : (σ υ : State) (s t : Bytes) → Runs σ (s ++ t) υ → (τ : State) × Runs σ s τ × Runs τ t υ
runs-split σ υ [] t r = (σ, stay σ, r)
runs-split σ υ (b ∷ s) t (step a τ c d s' is r) = let rest = runs-split τ υ s t r in (rest.0, step a τ rest.0 d s is rest.1, rest.2)

-- a text is read in one way
pub runs-same : (σ τ υ : State) (s : Bytes) → Runs σ s τ → Runs σ s υ → τ ≡ υ
runs-same σ τ υ [] (stay a) (stay c) = refl
runs-same σ τ υ (b ∷ s) (step a ρ c d s' is r) (step a' π c' d' s'' js q) =
    let both : Some ρ ≡ Some π = sym is ∙ js in
    let same : ρ ≡ π = cc in
    runs-same ρ τ υ s r (subst (λ x. Runs x s υ) (sym same) q)

-- no more than a refused byte is read
pub refused-after : (σ υ : State) (b : ℕ) (s : Bytes) → feed σ b ≡ None → Runs σ (b ∷ s) υ → ⊥
refused-after σ υ b s no_state (step a ρ c d s' is r) = let both : None ≡ Some ρ = sym no_state ∙ is in cc

-- the state is before a base, or behind one that no sign follows, with these frames
pub data IsAt : State → List Frame → Frame → Type 0 where
  ready : (outer : List Frame) (f : Frame) → IsAt (Ready outer f) outer f
  held : (outer : List Frame) (f g : Frame) (p : Lexeme) → g ≡ with_piece f p → IsAt (Held outer f p) outer g

-- the signs behind a base
abbrev is_sign : Kind → Bool
is_sign kind.Star = true
is_sign kind.Plus = true
is_sign kind.Query = true
is_sign k = false

held-feeds : (outer : List Frame) (f : Frame) (p : Lexeme) (b : ℕ) (k : Kind) → is_sign k ≡ false → feed_held outer f p b k ≡ feed_ready outer (with_piece f p) b k
held-feeds outer f p b kind.Star e = absurd (cc)
held-feeds outer f p b kind.Plus e = absurd (cc)
held-feeds outer f p b kind.Query e = absurd (cc)
held-feeds outer f p b k e = refl

-- a byte that is no sign goes on from there
at-feeds : (σ : State) (outer : List Frame) (f : Frame) (b : ℕ) → IsAt σ outer f → is_sign (kind_of b) ≡ false → feed σ b ≡ feed_ready outer f b (kind_of b)
at-feeds σ outer f b (ready o g) e = refl
at-feeds σ outer f b (held o g h p is) e = held-feeds o g p b (kind_of b) e ∙ ap (λ x. feed_ready o x b (kind_of b)) (sym is)

plain-feeds : (outer : List Frame) (f : Frame) (b : ℕ) (k : Kind) → is_plain k ≡ true → feed_ready outer f b k ≡ Some (Held outer f (Byte b))
plain-feeds outer f b kind.Plain e = refl
plain-feeds outer f b kind.Caret e = refl
plain-feeds outer f b kind.Dash e = refl
plain-feeds outer f b k e = absurd (cc)

plain-no_sign : (k : Kind) → is_plain k ≡ true → is_sign k ≡ false
plain-no_sign kind.Star e = absurd (cc)
plain-no_sign kind.Plus e = absurd (cc)
plain-no_sign kind.Query e = absurd (cc)
plain-no_sign k e = refl

pub cond-true : {A : Type 0} (t : Bool) (x y : A) → t ≡ true → cond t x y ≡ x
cond-true t x y e = ap (λ b. cond b x y) e

cond-false : {A : Type 0} (t : Bool) (x y : A) → t ≡ false → cond t x y ≡ y
cond-false t x y e = ap (λ b. cond b x y) e

escape-feeds : (outer : List Frame) (f : Frame) (b : ℕ) → is_special (kind_of b) ≡ true → feed (Escape outer f) b ≡ Some (Held outer f (Byte b))
escape-feeds outer f b special = cond-true (is_special (kind_of b)) _ _ special

-- no byte over 124 is special
large-kind : (c : ℕ) → 124 < c → is_special (kind_of c) ≡ false
large-kind c large =
    rw (ne_eqb c bar (omega arith), ne_eqb c star (omega arith), ne_eqb c plus (omega arith), ne_eqb c query (omega arith), ne_eqb c left_parenthesis (omega arith), ne_eqb c right_parenthesis (omega arith), ne_eqb c left_bracket (omega arith), ne_eqb c right_bracket (omega arith), ne_eqb c full_stop (omega arith), ne_eqb c backslash (omega arith), ne_eqb c caret (omega arith), ne_eqb c dash (omega arith))
    (elim (is_text_byte c) as (λ t. is_special (cond t kind.Plain kind.Other) ≡ false) [ true ↦ refl | false ↦ refl ])

pub special-le : (c : ℕ) → is_special (kind_of c) ≡ true → c ≤ greatest_special
special-le c special = small (nat_le c greatest_special) refl
  where
    small : (t : Bool) → nat_le c greatest_special ≡ t → c ≤ greatest_special
    small true e = leb-true c greatest_special e
    small false e = absurd (let both : true ≡ false = sym special ∙ large-kind c (leb-false c greatest_special e) in cc)

-- brackets: what is read of ranges
module _ (outer : List Frame) (f : Frame) (negated : Bool) where
  inside-plain : (rs : List (ℕ × ℕ)) (b : ℕ) (k : Kind) → is_plain_inside k ≡ true → feed_start outer f negated rs b k ≡ Some (Bracket outer f negated rs (Low b))
  inside-plain rs b kind.Plain e = refl
  inside-plain rs b k e = absurd (cc)

  -- behind a range, where the brackets may end
  pub data CanEnd : State → List (ℕ × ℕ) → Type 0 where
    low : (rs all : List (ℕ × ℕ)) (b : ℕ) → all ≡ rs ++ (b, b) ∷ [] → CanEnd (Bracket outer f negated rs (Low b)) all
    done : (rs : List (ℕ × ℕ)) → CanEnd (Bracket outer f negated rs Done) rs

  -- where a range may begin
  pub data CanStart : State → List (ℕ × ℕ) → Type 0 where
    opening : (rs : List (ℕ × ℕ)) → CanStart (Bracket outer f negated rs Open) rs
    start : (rs : List (ℕ × ℕ)) → CanStart (Bracket outer f negated rs Start) rs
    next : (σ : State) (rs : List (ℕ × ℕ)) → CanEnd σ rs → CanStart σ rs

  -- the kinds of bytes that begin a range
  abbrev begins_range : Kind → Bool
  begins_range kind.Backslash = true
  begins_range kind.Plain = true
  begins_range k = false

  next-feeds : (rs : List (ℕ × ℕ)) (b : ℕ) (k : Kind) → begins_range k ≡ true → feed_next outer f negated rs b k ≡ feed_start outer f negated rs b k
  next-feeds rs b kind.Backslash e = refl
  next-feeds rs b kind.Plain e = refl
  next-feeds rs b k e = absurd (cc)

  low-feeds : (rs : List (ℕ × ℕ)) (lo b : ℕ) (k : Kind) → begins_range k ≡ true → feed_inside outer f negated rs (Low lo) b k ≡ feed_start outer f negated (rs ++ (lo, lo) ∷ []) b k
  low-feeds rs lo b kind.Backslash e = refl
  low-feeds rs lo b kind.Plain e = refl
  low-feeds rs lo b k e = absurd (cc)

  open-feeds : (rs : List (ℕ × ℕ)) (b : ℕ) (k : Kind) → begins_range k ≡ true → feed_inside outer f negated rs Open b k ≡ feed_start outer f negated rs b k
  open-feeds rs b kind.Backslash e = refl
  open-feeds rs b kind.Plain e = refl
  open-feeds rs b k e = absurd (cc)

  start-feeds : (σ : State) (rs : List (ℕ × ℕ)) (b : ℕ) → CanStart σ rs → begins_range (kind_of b) ≡ true → feed σ b ≡ feed_start outer f negated rs b (kind_of b)
  start-feeds σ rs b (opening rs') e = open-feeds rs' b (kind_of b) e
  start-feeds σ rs b (start rs') e = refl
  start-feeds σ rs b (next τ rs' (low qs all lo is)) e = low-feeds qs lo b (kind_of b) e ∙ ap (λ x. feed_start outer f negated x b (kind_of b)) (sym is)
  start-feeds σ rs b (next τ rs' (done qs)) e = next-feeds qs b (kind_of b) e

  plain-begins : (k : Kind) → is_plain_inside k ≡ true → begins_range k ≡ true
  plain-begins kind.Plain e = refl
  plain-begins k e = absurd (cc)

  -- a low byte
  low-runs : (σ : State) (rs : List (ℕ × ℕ)) (b : ℕ) (s : Bytes) → CanStart σ rs → IsRangeByte b s → Runs σ s (Bracket outer f negated rs (Low b))
  low-runs σ rs b s at (spell.itself c plain) =
      runs-one σ (Bracket outer f negated rs (Low c)) c (start-feeds σ rs c at (plain-begins (kind_of c) plain) ∙ inside-plain rs c (kind_of c) plain)
  low-runs σ rs b s at (spell.escaped c special) =
      step σ (Bracket outer f negated rs StartEscape) (Bracket outer f negated rs (Low c)) backslash (c ∷ []) (start-feeds σ rs backslash at refl)
      (runs-one (Bracket outer f negated rs StartEscape) (Bracket outer f negated rs (Low c)) c (cond-true (is_special (kind_of c)) _ _ special))

  end-plain : (rs : List (ℕ × ℕ)) (lo c : ℕ) (k : Kind) → is_plain_inside k ≡ true → feed_inside outer f negated rs (Dash lo) c k ≡ feed_end outer f negated rs lo c true
  end-plain rs lo c kind.Plain e = refl
  end-plain rs lo c k e = absurd (cc)

  -- a high byte
  high-runs : (rs : List (ℕ × ℕ)) (lo c : ℕ) (t : Bytes) → lo ≤ c → IsRangeByte c t → Runs (Bracket outer f negated rs (Dash lo)) t (Bracket outer f negated (rs ++ (lo, c) ∷ []) Done)
  high-runs rs lo c t le (spell.itself d plain) =
      runs-one (Bracket outer f negated rs (Dash lo)) (Bracket outer f negated (rs ++ (lo, d) ∷ []) Done) d (end-plain rs lo d (kind_of d) plain ∙ cond-true (nat_le lo d) _ _ (le-leb lo d le))
  high-runs rs lo c t le (spell.escaped d special) =
      let small : lo ≤ greatest_special = omega (arith, special-le d special) in
      step (Bracket outer f negated rs (Dash lo)) (Bracket outer f negated rs (EndEscape lo)) (Bracket outer f negated (rs ++ (lo, d) ∷ []) Done) backslash (d ∷ []) (cond-true (nat_le lo greatest_special) _ _ (le-leb lo greatest_special small))
      (runs-one (Bracket outer f negated rs (EndEscape lo)) (Bracket outer f negated (rs ++ (lo, d) ∷ []) Done) d (cond-true (is_special (kind_of d) && nat_le lo d) _ _ (λ i. special i && le-leb lo d le i)))

  range-runs : (σ : State) (rs : List (ℕ × ℕ)) (r : ℕ × ℕ) (s : Bytes) → CanStart σ rs → IsRange r s → (τ : State) × Runs σ s τ × CanEnd τ (rs ++ r ∷ [])
  range-runs σ rs r s at (spell.one b s' byte) = (Bracket outer f negated rs (Low b), low-runs σ rs b s' at byte, low rs (rs ++ (b, b) ∷ []) b refl)
  range-runs σ rs r s at (spell.from_to b c s' t all first second le is) =
      let middle = Bracket outer f negated rs (Low b) in
      let behind = Bracket outer f negated rs (Dash b) in
      let last = Bracket outer f negated (rs ++ (b, c) ∷ []) Done in
      (last, subst (λ x. Runs σ x last) (sym is) (runs-append σ middle last s' (dash ∷ t) (low-runs σ rs b s' at first) (step middle behind last dash t refl (high-runs rs b c t le second))), done (rs ++ (b, c) ∷ []))

  pub ranges-run : (σ : State) (rs : List (ℕ × ℕ)) (s : Bytes) → CanStart σ [] → AreRanges rs s → (τ : State) × Runs σ s τ × CanEnd τ rs
  ranges-run σ rs s at (spell.first r s' range) = range-runs σ [] r s' at range
  ranges-run σ rs s at (spell.more qs all_qs r s' t all before range is is_text) =
      let front = ranges-run σ qs s' at before in
      let back = range-runs front.0 qs r t (next front.0 qs front.2) range in
      (back.0, subst (λ x. Runs σ x back.0) (sym is_text) (runs-append σ front.0 back.0 s' t front.1 back.1), subst (CanEnd back.0) (sym is) back.2)

  -- brackets end
  pub end-feeds : (σ : State) (rs : List (ℕ × ℕ)) → CanEnd σ rs → feed σ right_bracket ≡ Some (Held outer f (Class negated rs))
  end-feeds σ rs (low qs all b is) = ap (λ x. Some (Held outer f (Class negated x))) (sym is)
  end-feeds σ rs (done qs) = refl

-- a pattern is read from where it may stand, and what stands in the frame behind it is that pattern
room-is : (n : ℕ) (outer : List Frame) → suc n + length outer ≡ deepest → nat_lt (length outer) deepest ≡ true
room-is n outer room = lt-ltb (length outer) deepest (omega arith)

mutual
  pub base-runs : (n : ℕ) (p : Lexeme) (s : Bytes) (σ : State) (outer : List Frame) (f : Frame) → n + length outer ≡ deepest → IsAt σ outer f → IsBase n p s → Runs σ s (Held outer f p)
  base-runs n p s σ outer f room at (spell.byte m b plain) =
      runs-one σ (Held outer f (Byte b)) b (at-feeds σ outer f b at (plain-no_sign (kind_of b) plain) ∙ plain-feeds outer f b (kind_of b) plain)
  base-runs n p s σ outer f room at (spell.quoted m b special) =
      step σ (Escape outer f) (Held outer f (Byte b)) backslash (b ∷ []) (at-feeds σ outer f backslash at refl) (runs-one (Escape outer f) (Held outer f (Byte b)) b (escape-feeds outer f b special))
  base-runs n p s σ outer f room at (spell.dot m) = runs-one σ (Held outer f Dot) full_stop (at-feeds σ outer f full_stop at refl)
  base-runs n p s σ outer f room at (spell.class m rs t all ranges is) =
      let inside = Bracket outer f false [] Open in
      let r = ranges-run outer f false inside rs t (opening []) ranges in
      subst (λ x. Runs σ x (Held outer f (Class false rs))) (sym is)
      (step σ inside (Held outer f (Class false rs)) left_bracket (t ++ right_bracket ∷ []) (at-feeds σ outer f left_bracket at refl)
      (runs-append inside r.0 (Held outer f (Class false rs)) t (right_bracket ∷ []) r.1 (runs-one r.0 (Held outer f (Class false rs)) right_bracket (end-feeds outer f false r.0 rs r.2))))
  base-runs n p s σ outer f room at (spell.none_of m rs t all ranges is) =
      let inside = Bracket outer f false [] Open in
      let negated = Bracket outer f true [] Start in
      let r = ranges-run outer f true negated rs t (start []) ranges in
      subst (λ x. Runs σ x (Held outer f (Class true rs))) (sym is)
      (step σ inside (Held outer f (Class true rs)) left_bracket (caret ∷ t ++ right_bracket ∷ []) (at-feeds σ outer f left_bracket at refl)
      (step inside negated (Held outer f (Class true rs)) caret (t ++ right_bracket ∷ []) refl
      (runs-append negated r.0 (Held outer f (Class true rs)) t (right_bracket ∷ []) r.1 (runs-one r.0 (Held outer f (Class true rs)) right_bracket (end-feeds outer f true r.0 rs r.2)))))
  base-runs n p s σ outer f room at (spell.group m q t all pattern is) =
      let inside = Ready (f ∷ outer) empty_frame in
      let r = pattern-runs m q t inside (f ∷ outer) (omega arith) (ready (f ∷ outer) empty_frame) pattern in
      subst (λ x. Runs σ x (Held outer f q)) (sym is)
      (step σ inside (Held outer f q) left_parenthesis (t ++ right_parenthesis ∷ []) (at-feeds σ outer f left_parenthesis at refl ∙ cond-true (nat_lt (length outer) deepest) _ _ (room-is m outer room))
      (runs-append inside r.1 (Held outer f q) t (right_parenthesis ∷ []) r.2 (runs-one r.1 (Held outer f q) right_parenthesis (at-feeds r.1 (f ∷ outer) r.0 right_parenthesis r.3 refl ∙ ap (λ x. Some (Held outer f x)) r.4))))

  piece-runs : (n : ℕ) (p : Lexeme) (s : Bytes) (σ : State) (outer : List Frame) (f : Frame) → n + length outer ≡ deepest → IsAt σ outer f → IsPiece n p s → (τ : State) × Runs σ s τ × IsAt τ outer (with_piece f p)
  piece-runs n p s σ outer f room at (spell.once m q t base) = (Held outer f q, base-runs m q t σ outer f room at base, held outer f (with_piece f q) q refl)
  piece-runs n p s σ outer f room at (spell.starred m q t all base is) =
      let υ = Ready outer (with_piece f (Many q)) in
      (υ, subst (λ x. Runs σ x υ) (sym is) (runs-append σ (Held outer f q) υ t (star ∷ []) (base-runs m q t σ outer f room at base) (runs-one (Held outer f q) υ star refl)), ready outer (with_piece f (Many q)))
  piece-runs n p s σ outer f room at (spell.with_plus m q t all base is) =
      let υ = Ready outer (with_piece f (Several q)) in
      (υ, subst (λ x. Runs σ x υ) (sym is) (runs-append σ (Held outer f q) υ t (plus ∷ []) (base-runs m q t σ outer f room at base) (runs-one (Held outer f q) υ plus refl)), ready outer (with_piece f (Several q)))
  piece-runs n p s σ outer f room at (spell.with_query m q t all base is) =
      let υ = Ready outer (with_piece f (Maybe q)) in
      (υ, subst (λ x. Runs σ x υ) (sym is) (runs-append σ (Held outer f q) υ t (query ∷ []) (base-runs m q t σ outer f room at base) (runs-one (Held outer f q) υ query refl)), ready outer (with_piece f (Maybe q)))

  run-runs : (n : ℕ) (p : Lexeme) (s : Bytes) (σ : State) (outer : List Frame) (a : Option Lexeme) → n + length outer ≡ deepest → IsAt σ outer (record { alternatives = a; sequence = None }) → IsRun n p s → (τ : State) × Runs σ s τ × IsAt τ outer (record { alternatives = a; sequence = Some p })
  run-runs n p s σ outer a room at (spell.alone m q t piece) = piece-runs m q t σ outer (record { alternatives = a; sequence = None }) room at piece
  run-runs n p s σ outer a room at (spell.and_then m q r t u all before piece is) =
      let front = run-runs m q t σ outer a room at before in
      let back = piece-runs m r u front.0 outer (record { alternatives = a; sequence = Some q }) room front.2 piece in
      (back.0, subst (λ x. Runs σ x back.0) (sym is) (runs-append σ front.0 back.0 t u front.1 back.1), back.2)

  sequence-runs : (n : ℕ) (p : Lexeme) (s : Bytes) (σ : State) (outer : List Frame) (a : Option Lexeme) → n + length outer ≡ deepest → IsAt σ outer (record { alternatives = a; sequence = None }) → IsSequence n p s → (f : Frame) × (τ : State) × Runs σ s τ × IsAt τ outer f × (whole f ≡ joined a p)
  sequence-runs n p s σ outer a room at (spell.empty m) = (record { alternatives = a; sequence = None }, σ, stay σ, at, refl)
  sequence-runs n p s σ outer a room at (spell.some m q t run) =
      let r = run-runs m q t σ outer a room at run in
      (record { alternatives = a; sequence = Some q }, r.0, r.1, r.2, refl)

  pub pattern-runs : (n : ℕ) (p : Lexeme) (s : Bytes) (σ : State) (outer : List Frame) → n + length outer ≡ deepest → IsAt σ outer empty_frame → IsPattern n p s → (f : Frame) × (τ : State) × Runs σ s τ × IsAt τ outer f × (whole f ≡ p)
  pattern-runs n p s σ outer room at (spell.only m q t sequence) = sequence-runs m q t σ outer None room at sequence
  pattern-runs n p s σ outer room at (spell.or m q r t u all before sequence is) =
      let front = pattern-runs m q t σ outer room at before in
      let middle = Ready outer (barred front.0) in
      let same : barred front.0 ≡ record { alternatives = Some q; sequence = None } = ap (λ x. record { alternatives = Some x; sequence = None }) front.4 in
      let back = sequence-runs m r u middle outer (Some q) room (subst (IsAt middle outer) same (ready outer (barred front.0))) sequence in
      (back.0, back.1, subst (λ x. Runs σ x back.1) (sym is) (runs-append σ front.1 back.1 t (bar ∷ u) front.2 (step front.1 middle back.1 bar u (at-feeds front.1 outer front.0 bar front.3 refl) back.2)), back.3, back.4)
