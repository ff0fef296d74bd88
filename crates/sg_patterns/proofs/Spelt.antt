-- What is read so far is the front of a pattern.
use Rattle.std.proofs.Common.{◌≡◌, ℕ, zero, suc, ◌+◌, ◌<◌, ◌≤◌, ◌⊎◌, inl, inr, Bool, true, false, ◌&&◌, List, [], ◌∷◌, ◌++◌, length, refl, sym, ap, ◌∙◌, subst, arith, Option, Some, None, append_assoc}
use Rattle.std.specs.Prelude.{nat_lt, nat_le, cond, unwrap_or, ◌==◌}
use Rattle.std.proofs.lemmas.Bool.{eqb-true, leb-true, ltb-true}
use Rattle.sg_kinds.specs.Values.{Bytes, is_text_byte}
use Rattle.sg_kinds.specs.Lexemes.{Lexeme, Nothing, Byte, Dot, Class, Many, Several, Maybe}
use Rattle.sg_patterns.specs.declared.kinds.Kind.{Kind}
use Rattle.sg_patterns.specs.declared.kinds.Kind.TheVariants as kind
use Rattle.sg_patterns.specs.declared.reader.Inside.{Inside}
use Rattle.sg_patterns.specs.declared.reader.Inside.TheVariants.{Open, Start, Low, Done, Dash, StartEscape, EndEscape}
use Rattle.sg_patterns.specs.Kinds.{kind_of, is_special, is_plain, is_plain_inside, bar, star, plus, query, left_parenthesis, right_parenthesis, left_bracket, right_bracket, full_stop, backslash, caret, dash}
use Rattle.sg_patterns.specs.Spelling as spell
use Rattle.sg_patterns.specs.Spelling.{IsRangeByte, IsRange, AreRanges, IsPattern, IsSequence, IsRun, IsPiece, IsBase, deepest}
use Rattle.sg_patterns.specs.Machine.{Frame, State, Ready, Held, Escape, Bracket, empty_frame, followed, with_piece, joined, whole, barred, opened, closed, feed_ready, feed_held, feed_start, feed_next, feed_inside, feed_end, feed, ended, greatest_special}
use Rattle.std.proofs.lemmas.List.{append-nil}
use Rattle.sg_patterns.proofs.Matching.{and-both}
use Rattle.sg_patterns.proofs.Runs.{Runs, stay, step}

-- the pieces since the last bar
abbrev pub SequenceSpells : ℕ → Option Lexeme → Bytes → Type 0
SequenceSpells n None s = s ≡ []
SequenceSpells n (Some q) s = IsRun n q s

abbrev pub FrameSpells : ℕ → Option Lexeme → Option Lexeme → Bytes → Type 0
FrameSpells n None q s = SequenceSpells n q s
FrameSpells n (Some a) q s = (t : Bytes) × (u : Bytes) × IsPattern n a t × SequenceSpells n q u × (s ≡ t ++ bar ∷ u)

-- the parentheses that are open, in the innermost of which so many more may be opened
abbrev pub OuterSpells : ℕ → List Frame → Bytes → Type 0
OuterSpells n [] s = (n ≡ deepest) × (s ≡ [])
OuterSpells n (g ∷ gs) s =
    (t : Bytes) × (u : Bytes) × OuterSpells (suc n) gs t × FrameSpells (suc n) g.alternatives g.sequence u × (s ≡ (t ++ u) ++ left_parenthesis ∷ [])

pub record Front (n : ℕ) (outer : List Frame) (f : Frame) (s : Bytes) : Type 0 where
  pub before : Bytes
  pub here : Bytes
  pub outside : OuterSpells n outer before
  pub frame : FrameSpells n f.alternatives f.sequence here
  pub is : s ≡ before ++ here

-- brackets so far
abbrev pub opening_of : Bool → Bytes
opening_of false = left_bracket ∷ []
opening_of true = left_bracket ∷ caret ∷ []

abbrev pub MaybeRanges : List (ℕ × ℕ) → Bytes → Type 0
MaybeRanges rs v = ((rs ≡ []) × (v ≡ [])) ⊎ AreRanges rs v

abbrev pub InsideSpells : Bool → List (ℕ × ℕ) → Inside → Bytes → Type 0
InsideSpells negated rs Open u = (negated ≡ false) × (rs ≡ []) × (u ≡ left_bracket ∷ [])
InsideSpells negated rs Start u = (negated ≡ true) × (rs ≡ []) × (u ≡ left_bracket ∷ caret ∷ [])
InsideSpells negated rs (Low b) u = (v : Bytes) × (w : Bytes) × MaybeRanges rs v × IsRangeByte b w × (u ≡ (opening_of negated ++ v) ++ w)
InsideSpells negated rs Done u = (v : Bytes) × AreRanges rs v × (u ≡ opening_of negated ++ v)
InsideSpells negated rs (Dash b) u = (v : Bytes) × (w : Bytes) × MaybeRanges rs v × IsRangeByte b w × (u ≡ ((opening_of negated ++ v) ++ w) ++ dash ∷ [])
InsideSpells negated rs StartEscape u = (v : Bytes) × MaybeRanges rs v × (u ≡ (opening_of negated ++ v) ++ backslash ∷ [])
InsideSpells negated rs (EndEscape b) u =
    (v : Bytes) × (w : Bytes) × MaybeRanges rs v × IsRangeByte b w × (b ≤ greatest_special) × (u ≡ (((opening_of negated ++ v) ++ w) ++ dash ∷ []) ++ backslash ∷ [])

-- the bytes read so far
abbrev pub Spelt : State → Bytes → Type 0
Spelt (Ready outer f) s = (n : ℕ) × Front n outer f s
Spelt (Held outer f p) s = (n : ℕ) × (t : Bytes) × (u : Bytes) × Front n outer f t × IsBase n p u × (s ≡ t ++ u)
Spelt (Escape outer f) s = (n : ℕ) × (t : Bytes) × Front n outer f t × (s ≡ t ++ backslash ∷ [])
Spelt (Bracket outer f negated rs m) s = (n : ℕ) × (t : Bytes) × (u : Bytes) × Front n outer f t × InsideSpells negated rs m u × (s ≡ t ++ u)

sequence-is : (n : ℕ) (q : Option Lexeme) (s : Bytes) → SequenceSpells n q s → IsSequence n (unwrap_or q Nothing) s
sequence-is n None s is = subst (IsSequence n Nothing) (sym is) (spell.empty n)
sequence-is n (Some q) s run = spell.some n q s run

frame-is : (n : ℕ) (a q : Option Lexeme) (s : Bytes) → FrameSpells n a q s → IsPattern n (joined a (unwrap_or q Nothing)) s
frame-is n None q s spelt = spell.only n (unwrap_or q Nothing) s (sequence-is n q s spelt)
frame-is n (Some a) q s spelt = spell.or n a (unwrap_or q Nothing) spelt.0 spelt.1 s spelt.2 (sequence-is n q spelt.1 spelt.3) spelt.4

sequence-piece : (n : ℕ) (q : Option Lexeme) (p : Lexeme) (s t : Bytes) → SequenceSpells n q s → IsPiece n p t → IsRun n (followed q p) (s ++ t)
sequence-piece n None p s t is piece = subst (λ x. IsRun n p (x ++ t)) (sym is) (spell.alone n p t piece)
sequence-piece n (Some q) p s t run piece = spell.and_then n q p s t (s ++ t) run piece refl

frame-piece : (n : ℕ) (a q : Option Lexeme) (p : Lexeme) (s t : Bytes) → FrameSpells n a q s → IsPiece n p t → FrameSpells n a (Some (followed q p)) (s ++ t)
frame-piece n None q p s t spelt piece = sequence-piece n q p s t spelt piece
frame-piece n (Some a) q p s t spelt piece =
    (spelt.0, spelt.1 ++ t, spelt.2, sequence-piece n q p spelt.1 t spelt.3 piece, ap (λ x. x ++ t) spelt.4 ∙ append_assoc spelt.0 (bar ∷ spelt.1) t)

front-piece : (n : ℕ) (outer : List Frame) (f : Frame) (p : Lexeme) (s t : Bytes) → Front n outer f s → IsPiece n p t → Front n outer (with_piece f p) (s ++ t)
front-piece n outer f p s t front piece = record {
  before = front.before;
  here = front.here ++ t;
  outside = front.outside;
  frame = frame-piece n f.alternatives f.sequence p front.here t front.frame piece;
  is = ap (λ x. x ++ t) front.is ∙ append_assoc front.before front.here t;
}

-- how many more parentheses may be opened
outer-count : (n : ℕ) (outer : List Frame) (s : Bytes) → OuterSpells n outer s → n + length outer ≡ deepest
outer-count n [] s spelt = omega (arith, spelt.0)
outer-count n (g ∷ gs) s spelt = omega (arith, outer-count (suc n) gs spelt.0 spelt.2)

-- the code of a byte by its kind
abbrev HasCode : Kind → ℕ → Type 0
HasCode kind.Bar b = b ≡ bar
HasCode kind.Star b = b ≡ star
HasCode kind.Plus b = b ≡ plus
HasCode kind.Query b = b ≡ query
HasCode kind.LeftParenthesis b = b ≡ left_parenthesis
HasCode kind.RightParenthesis b = b ≡ right_parenthesis
HasCode kind.LeftBracket b = b ≡ left_bracket
HasCode kind.RightBracket b = b ≡ right_bracket
HasCode kind.Stop b = b ≡ full_stop
HasCode kind.Backslash b = b ≡ backslash
HasCode kind.Caret b = b ≡ caret
HasCode kind.Dash b = b ≡ dash
HasCode kind.Plain b = is_text_byte b ≡ true
HasCode kind.Other b = Unit {0}

choose : (b : ℕ) (t : Bool) (x y : Kind) → (t ≡ true → HasCode x b) → HasCode y b → HasCode (cond t x y) b
choose b true x y f h = f refl
choose b false x y f h = h

kind-code : (b : ℕ) → HasCode (kind_of b) b
kind-code b =
    choose b (b == bar) kind.Bar _ (eqb-true b bar) (choose b (b == star) kind.Star _ (eqb-true b star) (choose b (b == plus) kind.Plus _ (eqb-true b plus) (choose b (b == query) kind.Query _ (eqb-true b query)
    (choose b (b == left_parenthesis) kind.LeftParenthesis _ (eqb-true b left_parenthesis) (choose b (b == right_parenthesis) kind.RightParenthesis _ (eqb-true b right_parenthesis)
    (choose b (b == left_bracket) kind.LeftBracket _ (eqb-true b left_bracket) (choose b (b == right_bracket) kind.RightBracket _ (eqb-true b right_bracket)
    (choose b (b == full_stop) kind.Stop _ (eqb-true b full_stop) (choose b (b == backslash) kind.Backslash _ (eqb-true b backslash) (choose b (b == caret) kind.Caret _ (eqb-true b caret)
    (choose b (b == dash) kind.Dash _ (eqb-true b dash) (choose b (is_text_byte b) kind.Plain kind.Other (λ e. e) tt))))))))))))

pub kind-has : (b : ℕ) (k : Kind) → kind_of b ≡ k → HasCode k b
kind-has b k is = subst (λ x. HasCode x b) is (kind-code b)

-- the same text with another byte behind it
behind : (s t : Bytes) (b c : ℕ) → b ≡ c → s ++ c ∷ [] ≡ t → s ++ b ∷ [] ≡ t
behind s t b c same is = ap (λ x. s ++ x ∷ []) same ∙ is

spelt-is : (σ τ : State) (s : Bytes) → Some σ ≡ Some τ → Spelt σ s → Spelt τ s
spelt-is σ τ s same spelt = let e : σ ≡ τ = cc in subst (λ x. Spelt x s) e spelt

-- a parenthesis that may be opened
opened-spelt : (n : ℕ) (outer : List Frame) (f : Frame) (τ : State) (s : Bytes) (b : ℕ) → b ≡ left_parenthesis → Front n outer f s → opened outer f ≡ Some τ → Spelt τ (s ++ b ∷ [])
opened-spelt n outer f τ s b is front to = may (nat_lt (length outer) deepest) refl to
  where
    under : (m : ℕ) → length outer < deepest → m + length outer ≡ deepest → OuterSpells m outer front.before → FrameSpells m f.alternatives f.sequence front.here → Spelt (Ready (f ∷ outer) empty_frame) (s ++ b ∷ [])
    under zero less count outside frame = absurd (omega arith)
    under (suc m) less count outside frame = (
      m,
      record {
        before = s ++ b ∷ [];
        here = [];
        outside = (front.before, front.here, outside, frame, (λ i. front.is i ++ is i ∷ []));
        frame = refl;
        is = sym (append-nil (s ++ b ∷ []));
      },
    )

    may : (t : Bool) → nat_lt (length outer) deepest ≡ t → cond t (Some (Ready (f ∷ outer) empty_frame)) None ≡ Some τ → Spelt τ (s ++ b ∷ [])
    may true e same = spelt-is (Ready (f ∷ outer) empty_frame) τ (s ++ b ∷ []) same (under n (ltb-true (length outer) deepest e) (outer-count n outer front.before front.outside) front.outside front.frame)
    may false e same = absurd (cc)

-- a parenthesis that is closed
closed-spelt : (n : ℕ) (outer : List Frame) (f : Frame) (τ : State) (s : Bytes) (b : ℕ) → b ≡ right_parenthesis → Front n outer f s → closed outer f ≡ Some τ → Spelt τ (s ++ b ∷ [])
closed-spelt n [] f τ s b is front to = absurd (cc)
closed-spelt n (g ∷ gs) f τ s b is front to =
    let o = front.outside in
    let inner = (left_parenthesis ∷ front.here) ++ right_parenthesis ∷ [] in
    spelt-is (Held gs g (whole f)) τ (s ++ b ∷ []) to (
      suc n,
      o.0 ++ o.1,
      inner,
      record { before = o.0; here = o.1; outside = o.2; frame = o.3; is = refl },
      spell.group n (whole f) front.here inner (frame-is n f.alternatives f.sequence front.here front.frame) refl,
      (λ i. front.is i ++ is i ∷ []) ∙ ap (λ x. (x ++ front.here) ++ right_parenthesis ∷ []) o.4 ∙ simp append_assoc,
    )

ready-spelt : (n : ℕ) (outer : List Frame) (f : Frame) (τ : State) (s : Bytes) (b : ℕ) (k : Kind) → kind_of b ≡ k → Front n outer f s → feed_ready outer f b k ≡ Some τ → Spelt τ (s ++ b ∷ [])
ready-spelt n outer f τ s b kind.Bar e front to =
    let is : b ≡ bar = kind-has b kind.Bar e in
    spelt-is (Ready outer (barred f)) τ (s ++ b ∷ []) to (
      n,
      record {
        before = front.before;
        here = front.here ++ bar ∷ [];
        outside = front.outside;
        frame = (front.here, [], frame-is n f.alternatives f.sequence front.here front.frame, refl, refl);
        is = (λ i. front.is i ++ is i ∷ []) ∙ append_assoc front.before front.here (bar ∷ []);
      },
    )
ready-spelt n outer f τ s b kind.LeftParenthesis e front to = opened-spelt n outer f τ s b (kind-has b kind.LeftParenthesis e) front to
ready-spelt n outer f τ s b kind.RightParenthesis e front to = closed-spelt n outer f τ s b (kind-has b kind.RightParenthesis e) front to
ready-spelt n outer f τ s b kind.LeftBracket e front to =
    spelt-is (Bracket outer f false [] Open) τ (s ++ b ∷ []) to (n, s, left_bracket ∷ [], front, (refl, refl, refl), ap (λ x. s ++ x ∷ []) (kind-has b kind.LeftBracket e))
ready-spelt n outer f τ s b kind.Backslash e front to =
    spelt-is (Escape outer f) τ (s ++ b ∷ []) to (n, s, front, ap (λ x. s ++ x ∷ []) (kind-has b kind.Backslash e))
ready-spelt n outer f τ s b kind.Stop e front to =
    spelt-is (Held outer f Dot) τ (s ++ b ∷ []) to (n, s, full_stop ∷ [], front, spell.dot n, ap (λ x. s ++ x ∷ []) (kind-has b kind.Stop e))
ready-spelt n outer f τ s b kind.Plain e front to =
    spelt-is (Held outer f (Byte b)) τ (s ++ b ∷ []) to (n, s, b ∷ [], front, spell.byte n b (ap is_plain e), refl)
ready-spelt n outer f τ s b kind.Caret e front to =
    spelt-is (Held outer f (Byte b)) τ (s ++ b ∷ []) to (n, s, b ∷ [], front, spell.byte n b (ap is_plain e), refl)
ready-spelt n outer f τ s b kind.Dash e front to =
    spelt-is (Held outer f (Byte b)) τ (s ++ b ∷ []) to (n, s, b ∷ [], front, spell.byte n b (ap is_plain e), refl)
ready-spelt n outer f τ s b k e front to = absurd (cc)

-- a base with a sign behind it
signed-spelt : (n : ℕ) (outer : List Frame) (f : Frame) (p : Lexeme) (τ : State) (s t u : Bytes) (b c : ℕ) → b ≡ c → Front n outer f t → s ≡ t ++ u → IsPiece n p (u ++ c ∷ []) → Some (Ready outer (with_piece f p)) ≡ Some τ → Spelt τ (s ++ b ∷ [])
signed-spelt n outer f p τ s t u b c same front is piece to =
    spelt-is (Ready outer (with_piece f p)) τ (s ++ b ∷ []) to
    (n, subst (Front n outer (with_piece f p)) (sym ((λ i. is i ++ same i ∷ []) ∙ append_assoc t u (c ∷ []))) (front-piece n outer f p t (u ++ c ∷ []) front piece))

held-spelt : (n : ℕ) (outer : List Frame) (f : Frame) (p : Lexeme) (τ : State) (s t u : Bytes) (b : ℕ) (k : Kind) → kind_of b ≡ k → Front n outer f t → IsBase n p u → s ≡ t ++ u → feed_held outer f p b k ≡ Some τ → Spelt τ (s ++ b ∷ [])
held-spelt n outer f p τ s t u b kind.Star e front base is to = signed-spelt n outer f (Many p) τ s t u b star (kind-has b kind.Star e) front is (spell.starred n p u (u ++ star ∷ []) base refl) to
held-spelt n outer f p τ s t u b kind.Plus e front base is to = signed-spelt n outer f (Several p) τ s t u b plus (kind-has b kind.Plus e) front is (spell.with_plus n p u (u ++ plus ∷ []) base refl) to
held-spelt n outer f p τ s t u b kind.Query e front base is to = signed-spelt n outer f (Maybe p) τ s t u b query (kind-has b kind.Query e) front is (spell.with_query n p u (u ++ query ∷ []) base refl) to
held-spelt n outer f p τ s t u b k e front base is to =
    ready-spelt n outer (with_piece f p) τ s b k e (subst (Front n outer (with_piece f p)) (sym is) (front-piece n outer f p t u front (spell.once n p u base))) to

escape-spelt : (n : ℕ) (outer : List Frame) (f : Frame) (τ : State) (s t : Bytes) (b : ℕ) (special : Bool) → is_special (kind_of b) ≡ special → Front n outer f t → s ≡ t ++ backslash ∷ [] → cond special (Some (Held outer f (Byte b))) None ≡ Some τ → Spelt τ (s ++ b ∷ [])
escape-spelt n outer f τ s t b true e front is to =
    spelt-is (Held outer f (Byte b)) τ (s ++ b ∷ []) to (n, t, backslash ∷ b ∷ [], front, spell.quoted n b e, ap (λ x. x ++ b ∷ []) is ∙ append_assoc t (backslash ∷ []) (b ∷ []))
escape-spelt n outer f τ s t b false e front is to = absurd (cc)

-- in brackets
module _ (n : ℕ) (outer : List Frame) (f : Frame) (negated : Bool) (s t : Bytes) (front : Front n outer f t) (b : ℕ) where
  inside-to : (τ : State) (u u' : Bytes) (rs : List (ℕ × ℕ)) (m : Inside) → s ≡ t ++ u → u ++ b ∷ [] ≡ u' → InsideSpells negated rs m u' → Some (Bracket outer f negated rs m) ≡ Some τ → Spelt τ (s ++ b ∷ [])
  inside-to τ u u' rs m is more inside to =
      spelt-is (Bracket outer f negated rs m) τ (s ++ b ∷ []) to (n, t, u', front, inside, ap (λ x. x ++ b ∷ []) is ∙ append_assoc t u (b ∷ []) ∙ ap (λ x. t ++ x) more)

  start-spelt : (τ : State) (u v : Bytes) (rs : List (ℕ × ℕ)) (k : Kind) → kind_of b ≡ k → s ≡ t ++ u → MaybeRanges rs v → u ≡ opening_of negated ++ v → feed_start outer f negated rs b k ≡ Some τ → Spelt τ (s ++ b ∷ [])
  start-spelt τ u v rs kind.Backslash e is ranges u_is to =
      inside-to τ u ((opening_of negated ++ v) ++ backslash ∷ []) rs StartEscape is (λ i. u_is i ++ kind-has b kind.Backslash e i ∷ []) (v, ranges, refl) to
  start-spelt τ u v rs kind.Plain e is ranges u_is to =
      inside-to τ u ((opening_of negated ++ v) ++ b ∷ []) rs (Low b) is (ap (λ x. x ++ b ∷ []) u_is) (v, b ∷ [], ranges, spell.itself b (ap is_plain_inside e), refl) to
  start-spelt τ u v rs k e is ranges u_is to = absurd (cc)

  -- brackets that end
  class-spelt : (rs : List (ℕ × ℕ)) (v : Bytes) → AreRanges rs v → IsBase n (Class negated rs) ((opening_of negated ++ v) ++ right_bracket ∷ [])
  class-spelt rs v ranges = class_by negated
    where
      class_by : (x : Bool) → IsBase n (Class x rs) ((opening_of x ++ v) ++ right_bracket ∷ [])
      class_by false = spell.class n rs v ((left_bracket ∷ v) ++ right_bracket ∷ []) ranges refl
      class_by true = spell.none_of n rs v ((left_bracket ∷ caret ∷ v) ++ right_bracket ∷ []) ranges refl

  next-spelt : (τ : State) (u v : Bytes) (rs : List (ℕ × ℕ)) (k : Kind) → kind_of b ≡ k → s ≡ t ++ u → AreRanges rs v → u ≡ opening_of negated ++ v → feed_next outer f negated rs b k ≡ Some τ → Spelt τ (s ++ b ∷ [])
  next-spelt τ u v rs kind.RightBracket e is ranges u_is to =
      spelt-is (Held outer f (Class negated rs)) τ (s ++ b ∷ []) to
      (n, t, (opening_of negated ++ v) ++ right_bracket ∷ [], front, class-spelt rs v ranges, ap (λ x. x ++ b ∷ []) is ∙ append_assoc t u (b ∷ []) ∙ ap (λ x. t ++ x) (λ i. u_is i ++ kind-has b kind.RightBracket e i ∷ []))
  next-spelt τ u v rs k e is ranges u_is to = start-spelt τ u v rs k e is (inr ranges) u_is to

  -- one more range
  range-more : (rs : List (ℕ × ℕ)) (r : ℕ × ℕ) (v w : Bytes) → MaybeRanges rs v → IsRange r w → AreRanges (rs ++ r ∷ []) (v ++ w)
  range-more rs r v w (inl none) range =
      subst (λ qs. AreRanges (qs ++ r ∷ []) (v ++ w)) (sym none.0) (subst (λ x. AreRanges (r ∷ []) (x ++ w)) (sym none.1) (spell.first r w range))
  range-more rs r v w (inr ranges) range = spell.more rs (rs ++ r ∷ []) r v w (v ++ w) ranges range refl refl

  end-spelt : (τ : State) (u v w x : Bytes) (rs : List (ℕ × ℕ)) (lo : ℕ) (good : Bool) → (good ≡ true → IsRangeByte b x) → s ≡ t ++ u → MaybeRanges rs v → IsRangeByte lo w → u ++ b ∷ [] ≡ ((opening_of negated ++ v) ++ w) ++ dash ∷ x → feed_end outer f negated rs lo b good ≡ Some τ → Spelt τ (s ++ b ∷ [])
  end-spelt τ u v w x rs lo good byte is ranges low u_is to = may (good && nat_le lo b) refl to
    where
      may : (c : Bool) → (good && nat_le lo b) ≡ c → cond c (Some (Bracket outer f negated (rs ++ (lo, b) ∷ []) Done)) None ≡ Some τ → Spelt τ (s ++ b ∷ [])
      may true e same =
          let both = and-both good (nat_le lo b) e in
          let range = spell.from_to lo b w x (w ++ dash ∷ x) low (byte both.0) (leb-true lo b both.1) refl in
          inside-to τ u (opening_of negated ++ (v ++ (w ++ dash ∷ x))) (rs ++ (lo, b) ∷ []) Done is (u_is ∙ simp append_assoc) (v ++ (w ++ dash ∷ x), range-more rs (lo, b) v (w ++ dash ∷ x) ranges range, refl) same
      may false e same = absurd (cc)

  dash-spelt : (τ : State) (u v w : Bytes) (rs : List (ℕ × ℕ)) (lo : ℕ) (c : Bool) → nat_le lo greatest_special ≡ c → b ≡ backslash → s ≡ t ++ u → MaybeRanges rs v → IsRangeByte lo w → u ≡ ((opening_of negated ++ v) ++ w) ++ dash ∷ [] → cond c (Some (Bracket outer f negated rs (EndEscape lo))) None ≡ Some τ → Spelt τ (s ++ b ∷ [])
  dash-spelt τ u v w rs lo true e code is ranges low u_is to =
      inside-to τ u ((((opening_of negated ++ v) ++ w) ++ dash ∷ []) ++ backslash ∷ []) rs (EndEscape lo) is (λ i. u_is i ++ code i ∷ []) (v, w, ranges, low, leb-true lo greatest_special e, refl) to
  dash-spelt τ u v w rs lo false e code is ranges low u_is to = absurd (cc)

  low-escaped : (τ : State) (u v : Bytes) (rs : List (ℕ × ℕ)) (c : Bool) → is_special (kind_of b) ≡ c → s ≡ t ++ u → MaybeRanges rs v → u ≡ (opening_of negated ++ v) ++ backslash ∷ [] → cond c (Some (Bracket outer f negated rs (Low b))) None ≡ Some τ → Spelt τ (s ++ b ∷ [])
  low-escaped τ u v rs true e is ranges u_is to =
      inside-to τ u ((opening_of negated ++ v) ++ backslash ∷ b ∷ []) rs (Low b) is (ap (λ x. x ++ b ∷ []) u_is ∙ append_assoc (opening_of negated ++ v) (backslash ∷ []) (b ∷ [])) (v, backslash ∷ b ∷ [], ranges, spell.escaped b e, refl) to
  low-escaped τ u v rs false e is ranges u_is to = absurd (cc)

  negated-spelt : (τ : State) (u : Bytes) (rs : List (ℕ × ℕ)) → b ≡ caret → s ≡ t ++ u → rs ≡ [] → u ≡ left_bracket ∷ [] → Some (Bracket outer f true rs Start) ≡ Some τ → Spelt τ (s ++ b ∷ [])
  negated-spelt τ u rs code is none u_is to =
      spelt-is (Bracket outer f true rs Start) τ (s ++ b ∷ []) to
      (n, t, left_bracket ∷ caret ∷ [], front, (refl, none, refl), ap (λ x. x ++ b ∷ []) is ∙ append_assoc t u (b ∷ []) ∙ (λ i. t ++ (u_is i ++ code i ∷ [])))

  -- a byte behind the low byte of a range
  low-next : (τ : State) (u v w : Bytes) (rs : List (ℕ × ℕ)) (lo : ℕ) (k : Kind) → kind_of b ≡ k → s ≡ t ++ u → MaybeRanges rs v → IsRangeByte lo w → u ≡ (opening_of negated ++ v) ++ w → feed_next outer f negated (rs ++ (lo, lo) ∷ []) b k ≡ Some τ → Spelt τ (s ++ b ∷ [])
  low-next τ u v w rs lo k e is ranges low u_is to =
      next-spelt τ u (v ++ w) (rs ++ (lo, lo) ∷ []) k e is (range-more rs (lo, lo) v w ranges (spell.one lo w low)) (u_is ∙ append_assoc (opening_of negated) v w) to

  high-next : (τ : State) (u v w : Bytes) (rs : List (ℕ × ℕ)) (lo : ℕ) (k : Kind) → kind_of b ≡ k → s ≡ t ++ u → MaybeRanges rs v → IsRangeByte lo w → u ≡ ((opening_of negated ++ v) ++ w) ++ dash ∷ [] → feed_end outer f negated rs lo b (is_plain_inside k) ≡ Some τ → Spelt τ (s ++ b ∷ [])
  high-next τ u v w rs lo k e is ranges low u_is to =
      end-spelt τ u v w (b ∷ []) rs lo (is_plain_inside k) (λ good. spell.itself b (ap is_plain_inside e ∙ good)) is ranges low (ap (λ x. x ++ b ∷ []) u_is ∙ append_assoc ((opening_of negated ++ v) ++ w) (dash ∷ []) (b ∷ [])) to

  first-start : (τ : State) (u : Bytes) (rs : List (ℕ × ℕ)) (x : Bool) (k : Kind) → kind_of b ≡ k → s ≡ t ++ u → negated ≡ x → rs ≡ [] → u ≡ opening_of x → feed_start outer f negated rs b k ≡ Some τ → Spelt τ (s ++ b ∷ [])
  first-start τ u rs x k e is way none u_is to =
      start-spelt τ u [] rs k e is (inl (none, refl)) (u_is ∙ sym (append-nil (opening_of x)) ∙ ap (λ y. opening_of y ++ []) (sym way)) to

  inside-spelt : (τ : State) (u : Bytes) (rs : List (ℕ × ℕ)) (m : Inside) (k : Kind) → kind_of b ≡ k → s ≡ t ++ u → InsideSpells negated rs m u → feed_inside outer f negated rs m b k ≡ Some τ → Spelt τ (s ++ b ∷ [])
  inside-spelt τ u rs Open kind.Caret e is h to = negated-spelt τ u rs (kind-has b kind.Caret e) is h.1 h.2 to
  inside-spelt τ u rs Open k e is h to = first-start τ u rs false k e is h.0 h.1 h.2 to
  inside-spelt τ u rs Start k e is h to = first-start τ u rs true k e is h.0 h.1 h.2 to
  inside-spelt τ u rs (Low lo) kind.Dash e is h to =
      inside-to τ u (((opening_of negated ++ h.0) ++ h.1) ++ dash ∷ []) rs (Dash lo) is (λ i. h.4 i ++ kind-has b kind.Dash e i ∷ []) (h.0, h.1, h.2, h.3, refl) to
  inside-spelt τ u rs (Low lo) k e is h to = low-next τ u h.0 h.1 rs lo k e is h.2 h.3 h.4 to
  inside-spelt τ u rs Done k e is h to = next-spelt τ u h.0 rs k e is h.1 h.2 to
  inside-spelt τ u rs (Dash lo) kind.Backslash e is h to = dash-spelt τ u h.0 h.1 rs lo (nat_le lo greatest_special) refl (kind-has b kind.Backslash e) is h.2 h.3 h.4 to
  inside-spelt τ u rs (Dash lo) k e is h to = high-next τ u h.0 h.1 rs lo k e is h.2 h.3 h.4 to
  inside-spelt τ u rs StartEscape k e is h to = low-escaped τ u h.0 rs (is_special k) (ap is_special e) is h.1 h.2 to
  inside-spelt τ u rs (EndEscape lo) k e is h to =
      end-spelt τ u h.0 h.1 (backslash ∷ b ∷ []) rs lo (is_special k) (λ good. spell.escaped b (ap is_special e ∙ good)) is h.2 h.3 (ap (λ x. x ++ b ∷ []) h.5 ∙ simp append_assoc) to

-- one more byte
pub fed-spelt : (σ τ : State) (s : Bytes) (b : ℕ) → Spelt σ s → feed σ b ≡ Some τ → Spelt τ (s ++ b ∷ [])
fed-spelt (Ready outer f) τ s b h to = ready-spelt h.0 outer f τ s b (kind_of b) refl h.1 to
fed-spelt (Held outer f p) τ s b h to = held-spelt h.0 outer f p τ s h.1 h.2 b (kind_of b) refl h.3 h.4 h.5 to
fed-spelt (Escape outer f) τ s b h to = escape-spelt h.0 outer f τ s h.1 b (is_special (kind_of b)) refl h.2 h.3 to
fed-spelt (Bracket outer f negated rs m) τ s b h to = inside-spelt h.0 outer f negated s h.1 h.3 b τ h.2 rs m (kind_of b) refl h.5 h.4 to

-- more bytes
pub runs-spelt : (σ τ : State) (s t : Bytes) → Spelt σ s → Runs σ t τ → Spelt τ (s ++ t)
runs-spelt σ τ s t h (stay a) = subst (Spelt a) (sym (append-nil s)) h
runs-spelt σ τ s t h (step a ρ c b u is r) = subst (Spelt c) (append_assoc s (b ∷ []) u) (runs-spelt ρ c (s ++ b ∷ []) u (fed-spelt a ρ s b h is) r)

-- nothing is read before the first byte
abbrev pub first_state : State
first_state = Ready [] empty_frame

pub first-spelt : Spelt first_state []
first-spelt = (deepest, record { before = []; here = []; outside = (refl, refl); frame = refl; is = refl })

-- where the text may end it is a pattern
front-whole : (n : ℕ) (f : Frame) (s : Bytes) → Front n [] f s → IsPattern deepest (whole f) s
front-whole n f s front =
    let text : s ≡ front.here = front.is ∙ ap (λ x. x ++ front.here) front.outside.1 in
    subst (IsPattern deepest (whole f)) (sym text) (subst (λ m. IsPattern m (whole f) front.here) front.outside.0 (frame-is n f.alternatives f.sequence front.here front.frame))

pub ended-spelt : (σ : State) (p : Lexeme) (s : Bytes) → Spelt σ s → ended σ ≡ Some p → IsPattern deepest p s
ended-spelt (Ready [] f) p s h is = let same : whole f ≡ p = cc in subst (λ q. IsPattern deepest q s) same (front-whole h.0 f s h.1)
ended-spelt (Held [] f q) p s h is =
    let same : whole (with_piece f q) ≡ p = cc in
    subst (λ q. IsPattern deepest q s) same (front-whole h.0 (with_piece f q) s (subst (Front h.0 [] (with_piece f q)) (sym h.5) (front-piece h.0 [] f q h.1 h.2 h.3 (spell.once h.0 q h.2 h.4))))
ended-spelt (Ready (g ∷ gs) f) p s h is = absurd (cc)
ended-spelt (Held (g ∷ gs) f q) p s h is = absurd (cc)
ended-spelt (Escape outer f) p s h is = absurd (cc)
ended-spelt (Bracket outer f negated rs m) p s h is = absurd (cc)
