-- Each text has its tokens or a first place where nothing matches, and these are its only ones.
use Rattle.std.proofs.Common.{◌≡◌, ℕ, zero, suc, ◌+◌, ◌<◌, ◌≤◌, ◌⊎◌, Bool, true, false, List, [], ◌∷◌, ◌++◌, length, map, take, drop, refl, sym, ap, ◌∙◌, subst, arith, inl, inr, Option, Some, None}
use Rattle.std.specs.Prelude.{slice_get, MatchOption}
use Rattle.std.proofs.lemmas.Bool.{cases_eq, cases_lt, cases_Bool}
use Rattle.sg_kinds.specs.Values.{Bytes}
use Rattle.sg_kinds.specs.declared.spec.Spec.{Spec}
use Rattle.sg_patterns.specs.declared.lexemes.Lexemes.{Lexemes}
use Rattle.sg_patterns.specs.declared.scanning.InToken.{InToken}
use Rattle.sg_patterns.specs.Lexemes.{is_blank}
use Rattle.sg_patterns.specs.LexemesOf.{AreLexemesOf}
use Rattle.sg_patterns.specs.LongestMatch.{Terminal, Literal, Pattern, TerminalFrom, MatchesAt, IsLongest, HasNoMatch}
use Rattle.sg_patterns.specs.Scan.{terminals_of, token_of, Scanned, start, skipped, taken, StopsAt}
use Rattle.sg_patterns.proofs.Answering.{matches-there}
use Rattle.sg_patterns.proofs.Deciding.{decide-bytes, decide-from, least-below, greatest-below}
use Rattle.sg_patterns.proofs.InText.{match-within, longest-within}

decide-terminal : (t : Terminal) (text : Bytes) (i j : ℕ) → TerminalFrom t text i j ⊎ (TerminalFrom t text i j → ⊥)
decide-terminal (Literal s) text i j =
    elim (cases_eq j (i + length s)) [
      | inl e ↦ elim (decide-bytes (take (length s) (drop i text)) s) [ inl f ↦ inl (e, f) | inr n ↦ inr (λ h. n h.1) ]
      | inr n ↦ inr (λ h. n h.0)
    ]
decide-terminal (Pattern p) text i j = decide-from p text i j

module _ (all : List Terminal) (text : Bytes) (at : ℕ) where
  decide-at : (number len : ℕ) → MatchesAt all text at number len ⊎ (MatchesAt all text at number len → ⊥)
  decide-at number len = by (slice_get all number)
    where
      by : (o : Option Terminal) → MatchOption o ⊥ (λ t. TerminalFrom t text at (at + len)) ⊎ (MatchOption o ⊥ (λ t. TerminalFrom t text at (at + len)) → ⊥)
      by None = inr (λ h. h)
      by (Some t) = decide-terminal t text at (at + len)

  -- some terminal matches so many bytes, and these are some
  abbrev HasMatch : ℕ → Type 0
  HasMatch len = (0 < len) × ((number : ℕ) × MatchesAt all text at number len × ((m : ℕ) → MatchesAt all text at m len → number ≤ m))

  has-match : (number len : ℕ) → 0 < len → MatchesAt all text at number len → HasMatch len
  has-match number len some h =
      elim (least-below (λ m. MatchesAt all text at m len) (λ m. decide-at m len) (suc number)) [
        | inl f ↦ (some, (f.0, f.2, f.3))
        | inr never ↦ absurd (never number (omega arith) h)
      ]

  decide-length : (len : ℕ) → HasMatch len ⊎ (HasMatch len → ⊥)
  decide-length len =
      elim (cases_lt 0 len) [
        | inr none ↦ inr (λ h. let l = h.0 in absurd (omega (arith, l, none)))
        | inl some ↦ elim (least-below (λ m. MatchesAt all text at m len) (λ m. decide-at m len) (length all)) [
          | inl f ↦ inl (some, (f.0, f.2, f.3))
          | inr never ↦ inr (λ h. never h.1.0 (matches-there text at all h.1.0 len h.1.1) h.1.1)
        ]
      ]

  -- what the longest match at a place is, or that there is none
  pub decide-longest : ((number : ℕ) × (len : ℕ) × IsLongest all text at number len) ⊎ HasNoMatch all text at
  decide-longest =
      elim (greatest-below HasMatch decide-length (suc (length text))) [
        | inl f ↦ inl (
          f.2.1.0,
          f.0,
          record {
            some = f.2.0;
            found = f.2.1.1;
            longest = λ m n h. elim (cases_lt 0 n) [ inl some ↦ f.3 n (within m n h some) (has-match m n some h) | inr none ↦ omega (arith, none) ];
            first = f.2.1.2;
          },
        )
        | inr never ↦ inr (λ m n h. elim (cases_lt 0 n) [ inl some ↦ absurd (never n (within m n h some) (has-match m n some h)) | inr none ↦ omega (arith, none) ])
      ]
    where
      within : (m n : ℕ) → MatchesAt all text at m n → 0 < n → n < suc (length text)
      within m n h some = let l = match-within all text at m n h some in omega (arith, l)

  -- there is one longest match at most
  pub longest-unique : (m n k l : ℕ) → IsLongest all text at m n → IsLongest all text at k l → (m ≡ k) × (n ≡ l)
  longest-unique m n k l f g =
      let a = f.longest k l g.found in
      let b = g.longest m n f.found in
      let same : n ≡ l = omega (arith, a, b) in
      let c = f.first k (subst (λ z. MatchesAt all text at k z) (sym same) g.found) in
      let d = g.first m (subst (λ z. MatchesAt all text at m z) same f.found) in
      (omega (arith, c, d), same)

module _ (l : Lexemes) (text : Bytes) where
  -- the scan so far ends as one of the whole text, or stops
  scan-on : (rest at : ℕ) (ts : List InToken) → Scanned l text at ts → at ≤ length text → length text ≤ at + rest → ((us : List InToken) × Scanned l text (length text) us) ⊎ ((k : ℕ) × StopsAt l text k)
  scan-on zero at ts s low near = inl (ts, subst (λ z. Scanned l text z ts) (omega (arith, low, near)) s)
  scan-on (suc rest) at ts s low near =
      elim (cases_lt at (length text)) [
        | inr past ↦ inl (ts, subst (λ z. Scanned l text z ts) (omega (arith, low, past)) s)
        | inl less ↦ elim (decide-longest (terminals_of l) text at) [
          | inr never ↦ inr (at, record { tokens = ts; scanned = s; within = less; no_match = never })
          | inl f ↦
              let some = f.2.some in
              let w = (longest-within l text at f.0 f.1 f.2).0 in
              elim (cases_Bool (is_blank l.blank (length l.literals) f.0)) [
                | inl blank ↦ scan-on rest (at + f.1) ts (skipped at f.0 f.1 ts s f.2 blank) w (omega (arith, near, some))
                | inr other ↦ scan-on rest (at + f.1) (ts ++ token_of l at f.0 f.1 ∷ []) (taken at f.0 f.1 ts s f.2 other) w (omega (arith, near, some))
              ]
        ]
      ]

  pub text-scanned : ((ts : List InToken) × Scanned l text (length text) ts) ⊎ ((k : ℕ) × StopsAt l text k)
  text-scanned = scan-on (length text) 0 [] start (omega arith) (omega arith)

  -- a scan goes on from one place to another
  data Goes : ℕ → List InToken → ℕ → List InToken → Type 0 where
    stay : (at : ℕ) (ts : List InToken) → Goes at ts at ts
    skip : (at number len : ℕ) (ts : List InToken) (b : ℕ) (us : List InToken) → IsLongest (terminals_of l) text at number len
        → is_blank l.blank (length l.literals) number ≡ true → Goes (at + len) ts b us → Goes at ts b us
    put : (at number len : ℕ) (ts : List InToken) (b : ℕ) (us : List InToken) → IsLongest (terminals_of l) text at number len
        → is_blank l.blank (length l.literals) number ≡ false → Goes (at + len) (ts ++ token_of l at number len ∷ []) b us → Goes at ts b us

  joined : (a : ℕ) (ts : List InToken) (b : ℕ) (us : List InToken) (c : ℕ) (ws : List InToken) → Goes a ts b us → Goes b us c ws → Goes a ts c ws
  joined _ _ _ _ c ws (stay at ts) h = h
  joined _ _ _ _ c ws (skip at number len ts b us f blank g) h = skip at number len ts c ws f blank (joined (at + len) ts b us c ws g h)
  joined _ _ _ _ c ws (put at number len ts b us f other g) h = put at number len ts c ws f other (joined (at + len) (ts ++ token_of l at number len ∷ []) b us c ws g h)

  from-start : (at : ℕ) (ts : List InToken) → Scanned l text at ts → Goes 0 [] at ts
  from-start _ _ start = stay 0 []
  from-start _ _ (skipped at number len ts s f blank) =
      joined 0 [] at ts (at + len) ts (from-start at ts s) (skip at number len ts (at + len) ts f blank (stay (at + len) ts))
  from-start _ _ (taken at number len ts s f other) =
      let us = ts ++ token_of l at number len ∷ [] in
      joined 0 [] at ts (at + len) us (from-start at ts s) (put at number len ts (at + len) us f other (stay (at + len) us))

  -- nothing is found at the place
  abbrev IsFinal : ℕ → Type 0
  IsFinal at = (number len : ℕ) → IsLongest (terminals_of l) text at number len → ⊥

  final-end : IsFinal (length text)
  final-end number len f = let some = f.some in let w = (longest-within l text (length text) number len f).0 in absurd (omega (arith, some, w))

  final-stop : (at : ℕ) → HasNoMatch (terminals_of l) text at → IsFinal at
  final-stop at never number len f = let some = f.some in let same = never number len f.found in absurd (omega (arith, some, same))

  clash : (b : Bool) → b ≡ true → b ≡ false → ⊥
  clash b e f = let g : true ≡ false = sym e ∙ f in absurd (cc)

  -- two ways from one place to places where nothing is found are one
  meet : (a : ℕ) (ts : List InToken) (b : ℕ) (us : List InToken) (c : ℕ) (ws : List InToken) → Goes a ts b us → Goes a ts c ws → IsFinal b → IsFinal c → (b ≡ c) × (us ≡ ws)
  meet _ _ _ _ _ _ (stay at ts) (stay _ _) fb fc = (refl, refl)
  meet _ _ _ _ _ _ (stay at ts) (skip _ number len _ c ws f blank h) fb fc = absurd (fb number len f)
  meet _ _ _ _ _ _ (stay at ts) (put _ number len _ c ws f other h) fb fc = absurd (fb number len f)
  meet _ _ _ _ _ _ (skip at number len ts b us f blank g) (stay _ _) fb fc = absurd (fc number len f)
  meet _ _ _ _ _ _ (put at number len ts b us f other g) (stay _ _) fb fc = absurd (fc number len f)
  meet _ _ _ _ _ _ (skip at m n ts b us f blank g) (skip _ k o _ c ws f2 blank2 h) fb fc =
      let u = longest-unique (terminals_of l) text at m n k o f f2 in
      meet (at + n) ts b us c ws g (subst (λ z. Goes (at + z) ts c ws) (sym u.1) h) fb fc
  meet _ _ _ _ _ _ (put at m n ts b us f other g) (put _ k o _ c ws f2 other2 h) fb fc =
      let u = longest-unique (terminals_of l) text at m n k o f f2 in
      meet (at + n) (ts ++ token_of l at m n ∷ []) b us c ws g (subst (λ z. Goes (at + z) (ts ++ token_of l at m z ∷ []) c ws) (sym u.1) (subst (λ z. Goes (at + o) (ts ++ token_of l at z o ∷ []) c ws) (sym u.0) h)) fb fc
  meet _ _ _ _ _ _ (skip at m n ts b us f blank g) (put _ k o _ c ws f2 other h) fb fc =
      let u = longest-unique (terminals_of l) text at m n k o f f2 in
      absurd (clash (is_blank l.blank (length l.literals) k) (subst (λ z. is_blank l.blank (length l.literals) z ≡ true) u.0 blank) other)
  meet _ _ _ _ _ _ (put at m n ts b us f other g) (skip _ k o _ c ws f2 blank h) fb fc =
      let u = longest-unique (terminals_of l) text at m n k o f f2 in
      absurd (clash (is_blank l.blank (length l.literals) k) blank (subst (λ z. is_blank l.blank (length l.literals) z ≡ false) u.0 other))

  pub tokens-unique : (ts us : List InToken) → Scanned l text (length text) ts → Scanned l text (length text) us → ts ≡ us
  tokens-unique ts us s r = (meet 0 [] (length text) ts (length text) us (from-start (length text) ts s) (from-start (length text) us r) final-end final-end).1

  pub scanned-never-stops : (ts : List InToken) (k : ℕ) → Scanned l text (length text) ts → StopsAt l text k → ⊥
  scanned-never-stops ts k s stop =
      let m = meet 0 [] (length text) ts k stop.tokens (from-start (length text) ts s) (from-start k stop.tokens stop.scanned) final-end (final-stop k stop.no_match) in
      let same = m.0 in
      let less = stop.within in
      absurd (omega (arith, same, less))

  pub one-stop : (k n : ℕ) → StopsAt l text k → StopsAt l text n → k ≡ n
  one-stop k n a b =
      (meet 0 [] k a.tokens n b.tokens (from-start k a.tokens a.scanned) (from-start n b.tokens b.scanned) (final-stop k a.no_match) (final-stop n b.no_match)).0

-- the lexemes of one specification scan alike
module _ (spec : Spec) (l m : Lexemes) (a : AreLexemesOf spec l) (b : AreLexemesOf spec m) (text : Bytes) where
  same-terminals : terminals_of l ≡ terminals_of m
  same-terminals = λ i. map Literal ((a.literals ∙ sym b.literals) i) ++ map Pattern ((a.patterns ∙ sym b.patterns) i)

  same-blank : (n : ℕ) → is_blank l.blank (length l.literals) n ≡ is_blank m.blank (length m.literals) n
  same-blank n = λ i. is_blank ((a.blank ∙ sym b.blank) i) (length ((a.literals ∙ sym b.literals) i)) n

  same-token : (at number len : ℕ) → token_of l at number len ≡ token_of m at number len
  same-token at number len = ap (λ f. record { terminal = f + number; from = at; to = at + len }) (a.first ∙ sym b.first)

  pub same-scan : (at : ℕ) (ts : List InToken) → Scanned l text at ts → Scanned m text at ts
  same-scan _ _ start = start
  same-scan _ _ (skipped at number len ts s f blank) =
      skipped at number len ts (same-scan at ts s) (subst (λ all. IsLongest all text at number len) same-terminals f) (sym (same-blank number) ∙ blank)
  same-scan _ _ (taken at number len ts s f other) =
      subst (λ x. Scanned m text (at + len) (ts ++ x ∷ [])) (sym (same-token at number len))
      (taken at number len ts (same-scan at ts s) (subst (λ all. IsLongest all text at number len) same-terminals f) (sym (same-blank number) ∙ other))

  pub same-stop : (k : ℕ) → StopsAt l text k → StopsAt m text k
  same-stop k s = record {
    tokens = s.tokens;
    scanned = same-scan k s.tokens s.scanned;
    within = s.within;
    no_match = subst (λ all. HasNoMatch all text k) same-terminals s.no_match;
  }
