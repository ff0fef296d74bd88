-- The tokens of a text match their patterns, so what they derive is of its type, and its plain term fits.
use Rattle.std.proofs.Common.{◌≡◌, ℕ, zero, suc, ◌+◌, ◌-◌, ◌≤◌, inl, inr, true, false, ◌&&◌, List, [], ◌∷◌, ◌++◌, length, map, take, drop, refl, sym, ap, ◌∙◌, subst, arith, Some, None}
use Rattle.std.specs.Prelude.{Option, slice_get, option_map, unwrap_or, All, Contains, MatchOption, IsTrue}
use Rattle.std.proofs.lemmas.List.{length-map}
use Rattle.std.proofs.lemmas.List.Elements.{All-nil, All-cons, All-head, All-tail, All-map, All-append, All-contains}
use Rattle.std.proofs.lemmas.Option.{same_Some, none-some, slice_get-map}
use Rattle.sg_kinds.specs.Values.{Bytes, Value, Chars, is_text, is_text_byte}
use Rattle.sg_kinds.specs.Terms.{Leaf}
use Rattle.sg_kinds.specs.Fits.{Fits, MayHold}
use Rattle.sg_kinds.specs.Plain.{plain}
use Rattle.sg_kinds.specs.OfType.{IsOfType}
use Rattle.sg_kinds.specs.Outcome.{outcome_of}
use Rattle.sg_kinds.specs.Lexemes.{Lexeme}
use Rattle.sg_kinds.specs.Matches.{Matches}
use Rattle.sg_kinds.specs.SameValue.{both}
use Rattle.sg_kinds.specs.Sound.{IsSound, symbol_type, symbol_types, result_type}
use Rattle.sg_kinds.specs.Specification.{has_shape, is_lexical_shape}
use Rattle.sg_kinds.specs.Typing.{is_usable, is_accepted}
use Rattle.sg_kinds.specs.InputPieces.{InputPiece}
use Rattle.sg_prec.specs.WellGrouped.{Derives, nothing, literal, lexeme, under, derives}
use Rattle.sg_kinds.specs.declared.marks.Shape.{Shape}
use Rattle.sg_kinds.specs.declared.marks.Shape.TheVariants as shape
use Rattle.sg_kinds.specs.declared.spec.Entry.{Entry}
use Rattle.sg_kinds.specs.declared.spec.Phylum.{Phylum}
use Rattle.sg_kinds.specs.declared.spec.Production.{Production}
use Rattle.sg_kinds.specs.declared.spec.Spec.{Spec}
use Rattle.sg_kinds.specs.declared.spec.Symbol.{Symbol}
use Rattle.sg_kinds.specs.declared.spec.Symbol.TheVariants.{Quoted, Lexical, Nonterminal}
use Rattle.sg_kinds.proofs.PlainFits.{plain_fits}
use Rattle.sg_patterns.specs.Lexemes.{literals_of}
use Rattle.sg_patterns.specs.LexemesOf.{AreLexemesOf}
use Rattle.sg_patterns.specs.LongestMatch.{Literal, Pattern, TerminalFrom}
use Rattle.sg_patterns.specs.Scan.{terminals_of, token_of, Scanned, start, skipped, taken}
use Rattle.sg_patterns.specs.declared.lexemes.Lexemes.{Lexemes}
use Rattle.sg_patterns.specs.declared.scanning.InToken.{InToken}
use Rattle.sg_patterns.proofs.InPlace.{in-place}
use Rattle.sg_patterns.proofs.InText.{longest-within}
use Rattle.sg_grammar.specs.Numbered.{first_literal, first_lexeme, symbol_number}
use Rattle.sg_eval.specs.Typed.{AreOfTypes}
use Rattle.sg_eval.proofs.OfTypes.{production_typed}
use Rattle.sg_eval.proofs.TypeFacts.{there, cond_is, typed_accepted, term_there}
use Rattle.sg_input.specs.Pieces.{part, piece_of, pieces_of, IsToken, AreTokens}
use Rattle.sg_input.specs.Entered.{IsFault}
use Rattle.sg_input.proofs.Symbols.{lexical-is, terminal-back, both-types, right-types}
use Rattle.sg_input.proofs.Bridge.{at-contains}

-- parts of texts are texts
take-text : (n : ℕ) (s : Bytes) → is_text s ≡ true → is_text (take n s) ≡ true
take-text zero s h = refl
take-text (suc n) [] h = refl
take-text (suc n) (b ∷ s) h = let t = both (is_text_byte b) (is_text s) h in let i = take-text n s t.1 in rw t.0 i

drop-text : (n : ℕ) (s : Bytes) → is_text s ≡ true → is_text (drop n s) ≡ true
drop-text zero s h = h
drop-text (suc n) [] h = refl
drop-text (suc n) (b ∷ s) h = drop-text n s (both (is_text_byte b) (is_text s) h).1

part-text : (text : Bytes) (i j : ℕ) → is_text text ≡ true → is_text (part text i j) ≡ true
part-text text i j h = take-text (j - i) (drop i text) (drop-text i text h)

all-front : {A : Type 0} (P : A → Type 0) (xs ys : List A) → All P (xs ++ ys) → All P xs
all-front P [] ys h = All-nil P
all-front P (x ∷ xs) ys h = All-cons P x xs (All-head P x (xs ++ ys) h) (all-front P xs ys (All-tail P x (xs ++ ys) h))

all-back : {A : Type 0} (P : A → Type 0) (xs ys : List A) → All P (xs ++ ys) → All P ys
all-back P [] ys h = h
all-back P (x ∷ xs) ys h = all-back P xs ys (All-tail P x (xs ++ ys) h)

get-right : {A : Type 0} (xs ys : List A) (k p : ℕ) → p ≡ length xs + k → slice_get (xs ++ ys) p ≡ slice_get ys k
get-right [] ys k p e = ap (slice_get ys) (omega (arith, e))
get-right (y ∷ xs) ys k zero e = absurd (omega (arith, e))
get-right (y ∷ xs) ys k (suc p) e = get-right xs ys k p (omega (arith, e))

module _ (spec : Spec) (sound : IsSound spec) (text : Bytes) where
  -- the token of a lexeme matches its pattern
  abbrev IsMatched : InToken → Type 0
  IsMatched x = (k : ℕ) → x.terminal ≡ first_lexeme spec + k → MatchOption (slice_get spec.lexemes k) ⊥ (λ p. Matches p (part text x.from x.to))

  matched-pattern : (o : Option Lexeme) (at to : ℕ) → at ≤ to → to ≤ length text → MatchOption (option_map Pattern o) ⊥ (λ t. TerminalFrom t text at to) → MatchOption o ⊥ (λ p. Matches p (part text at to))
  matched-pattern None at to rise low h = absurd h
  matched-pattern (Some p) at to rise low h = (in-place p text at to rise low).0 h

  module _ (l : Lexemes) (of : AreLexemesOf spec l) where
    lengths : (l.first ≡ first_literal spec) × (length l.literals ≡ length (literals_of spec.productions)) × (length l.patterns ≡ length spec.lexemes)
    lengths = (of.first, ap length of.literals, ap length of.patterns)

    pub scanned-tokens : (at : ℕ) (ts : List InToken) → Scanned l text at ts → AreTokens spec text ts
    scanned-tokens _ _ start = All-nil (IsToken spec text)
    scanned-tokens _ _ (skipped at number len ts s f blank) = scanned-tokens at ts s
    scanned-tokens _ _ (taken at number len ts s f other) =
        let w = longest-within l text at number len f in
        let a = lengths.0 in
        let b = lengths.1 in
        let c = lengths.2 in
        let d = w.1 in
        let x = token_of l at number len in
        let one : IsToken spec text x = (omega (arith, a), omega (arith, a, b, c, d), omega arith, w.0) in
        All-append (IsToken spec text) ts (x ∷ []) (scanned-tokens at ts s) (All-cons (IsToken spec text) x [] one (All-nil (IsToken spec text)))

    scanned-matched : (at : ℕ) (ts : List InToken) → Scanned l text at ts → All IsMatched ts
    scanned-matched _ _ start = All-nil IsMatched
    scanned-matched _ _ (skipped at number len ts s f blank) = scanned-matched at ts s
    scanned-matched _ _ (taken at number len ts s f other) =
        let w = longest-within l text at number len f in
        let a = lengths.0 in
        let b = lengths.1 in
        let x = token_of l at number len in
        let one : IsMatched x = λ k e.
        let m = length-map l.literals Literal in
        let at_pattern : slice_get (terminals_of l) number ≡ slice_get (map Pattern l.patterns) k = get-right (map Literal l.literals) (map Pattern l.patterns) k number (omega (arith, a, b, e, m)) in
        let found = subst (λ o. MatchOption o ⊥ (λ t. TerminalFrom t text at (at + len))) (at_pattern ∙ slice_get-map Pattern l.patterns k) f.found in
        subst (λ ps. MatchOption (slice_get ps k) ⊥ (λ p. Matches p (part text at (at + len)))) of.patterns (matched-pattern (slice_get l.patterns k) at (at + len) (omega arith) w.0 found) in
        All-append IsMatched ts (x ∷ []) (scanned-matched at ts s) (All-cons IsMatched x [] one (All-nil IsMatched))

  -- the piece of a lexeme is a text that its pattern matches
  abbrev IsFit : InputPiece → Type 0
  IsFit p = (q : ℕ) → p.terminal ≡ Lexical q → (l : ℕ) (x : Phylum) → slice_get spec.phyla q ≡ Some x → x.shape ≡ shape.Lexemes l → IsTrue (is_text p.text) × MatchOption (slice_get spec.lexemes l) ⊥ (λ r. Matches r p.text)

  fit : is_text text ≡ true → (x : InToken) → IsToken spec text x → IsMatched x → IsFit (piece_of spec text x)
  fit allowed x t m q e l y at is =
      let n = (lexical-is spec sound q l y at is).1 in
      let back = terminal-back spec sound x.terminal t.0 t.1 in
      let number : x.terminal ≡ first_lexeme spec + l = sym back ∙ (ap (symbol_number spec) e ∙ n) in
      (part-text text x.from x.to allowed, m l number)

  pub pieces-fit : is_text text ≡ true → (l : Lexemes) → AreLexemesOf spec l → (at : ℕ) (ts : List InToken) → Scanned l text at ts → All IsFit (pieces_of spec text ts)
  pieces-fit allowed l of at ts s = All-map IsFit (piece_of spec text) ts (λ k d low. fit allowed _ (scanned-tokens l of at ts s k d low) (scanned-matched l of at ts s k d low))

  -- ---- types

  lexical-typed : (p : ℕ) (s : Bytes) (ps : List ℕ) → symbol_type spec (Lexical p) ≡ Some ps → ((l : ℕ) (x : Phylum) → slice_get spec.phyla p ≡ Some x → x.shape ≡ shape.Lexemes l → IsTrue (is_text s) × MatchOption (slice_get spec.lexemes l) ⊥ (λ r. Matches r s)) → (p ∷ [] ≡ ps) × IsOfType spec p (Chars s)
  lexical-typed p s ps h m =
      let c = cond_is (has_shape spec.phyla is_lexical_shape p && is_usable spec p) (Some (p ∷ [])) ps h in
      let b = (both (has_shape spec.phyla is_lexical_shape p) (is_usable spec p) c.0).0 in
      (same_Some (p ∷ []) ps c.1, by (slice_get spec.phyla p) refl b)
    where
      held : (x : Phylum) (t : Shape) → slice_get spec.phyla p ≡ Some x → x.shape ≡ t → is_lexical_shape t ≡ true → MayHold spec t (Chars s)
      held x (shape.Lexemes l) at is b = let f = m l x at is in (f.0, inr f.1)
      held x t at is b = absurd (cc)

      by : (o : Option Phylum) → slice_get spec.phyla p ≡ o → unwrap_or (option_map (λ (x : Phylum). is_lexical_shape x.shape) (slice_get spec.phyla p)) false ≡ true → IsOfType spec p (Chars s)
      by None e b = let n : false ≡ true = rw e at b in absurd (cc)
      by (Some x) e b =
          let h = held x x.shape e refl (let k = b in rw e at k) in
          inr (inl (Leaf p (Chars s), (refl, subst (λ o. MatchOption o ⊥ (λ (y : Phylum). MayHold spec y.shape (Chars s))) (sym e) h), refl))

  nonterminal-typed : (n p : ℕ) (ps : List ℕ) → result_type spec n ≡ Some p → symbol_type spec (Nonterminal n) ≡ Some ps → p ∷ [] ≡ ps
  nonterminal-typed n p ps e h = same_Some (p ∷ []) ps (sym (ap (λ o. option_map (λ q. q ∷ []) o) e) ∙ h)

  typed-onto : (p : ℕ) (v : Value) (ps qs G : List ℕ) (vs : List Value) → p ∷ [] ≡ ps → ps ++ qs ≡ G → IsOfType spec p v → AreOfTypes spec qs vs → AreOfTypes spec G (v ∷ vs)
  typed-onto p v ps qs G vs first all t ts = subst (λ g. AreOfTypes spec g (v ∷ vs)) (ap (λ z. z ++ qs) first ∙ all) (t, ts)

  -- the values of a string are of the types of its symbols
  pub typed : (Ys : List Symbol) (ps : List InputPiece) (vs : List Value) (bs : List (Option Production)) (n : ℕ) → Derives spec Ys ps vs bs n → All IsFit ps → (G : List ℕ) → symbol_types spec Ys ≡ Some G → AreOfTypes spec G vs
  typed _ _ _ _ _ nothing h G e = subst (λ g. AreOfTypes spec g []) (same_Some [] G e) tt
  typed _ _ _ _ _ (literal s t Xs ts vs bs n d) h G e =
      let two = both-types spec sound (Quoted s) Xs G e in
      let none : [] ≡ two.0 = same_Some [] two.0 two.1 in
      subst (λ g. AreOfTypes spec g vs) (ap (λ z. z ++ two.2) none ∙ two.4) (typed Xs ts vs bs n d (All-tail IsFit (record { terminal = Quoted s; text = t }) ts h) two.2 two.3)
  typed _ _ _ _ _ (lexeme p t Xs ts vs bs n d) h G e =
      let two = both-types spec sound (Lexical p) Xs G e in
      let x : InputPiece = record { terminal = Lexical p; text = t } in
      let one = lexical-typed p t two.0 two.1 (All-head IsFit x ts h p refl) in
      typed-onto p (Chars t) two.0 two.2 G vs one.0 two.4 one.1 (typed Xs ts vs bs n d (All-tail IsFit x ts h) two.2 two.3)
  typed _ _ _ _ _ (under r Xs us ts all ws vs below bs m n k c g d f split count) h G e =
      let two = both-types spec sound (Nonterminal r.left) Xs G e in
      let q = at-contains spec.productions r c in
      let pieces = subst (All IsFit) split h in
      let right = right-types spec sound q.0 r q.1 in
      let inner = typed r.right us ws below m d (all-front IsFit us ts pieces) right.0 right.1 in
      let result = (All-contains (λ (s : Production). (result_type spec s.left ≡ Some s.of) × IsTrue (is_usable spec s.of)) spec.productions r sound.typed.results c).0 in
      typed-onto r.of (outcome_of spec r.expr ws) two.0 two.2 G vs (nonterminal-typed r.left r.of two.0 result two.1) two.4
      (production_typed spec sound q.0 r q.1 right.0 ws right.1 inner) (typed Xs ts vs bs n f (all-back IsFit us ts pieces) two.2 two.3)

  result-typed : (N p : ℕ) (ps : List InputPiece) (v : Value) → derives spec N ps v → All IsFit ps → result_type spec N ≡ Some p → IsOfType spec p v
  result-typed N p ps v d h e = (typed (Nonterminal N ∷ []) ps (v ∷ []) d.0 d.1 d.2 h (p ∷ []) (ap (λ o. option_map (λ qs. qs ++ []) (option_map (λ q. q ∷ []) o)) e)).0

  -- what an entry gives fits its phylum
  pub entry-fits : (entry : ℕ) (x : Entry) → slice_get spec.entries entry ≡ Some x → (ps : List InputPiece) (v : Value) → derives spec x.nonterminal ps v → All IsFit ps → (IsFault v → ⊥) → Fits spec (plain spec v x.phylum) x.phylum
  entry-fits entry x at ps v d h apart =
      let t = All-contains (λ (y : Entry). MatchOption (result_type spec y.nonterminal) ⊥ (λ p. IsTrue (is_accepted spec p y.phylum))) spec.entries x sound.entries.results (contains-at spec.entries entry x at) in
      let m = there (result_type spec x.nonterminal) _ t in
      let is = typed_accepted spec sound m.0 x.phylum v m.2 (result-typed x.nonterminal m.0 ps v d h m.1) in
      let term = term_there spec sound x.phylum v (λ kind e. apart (kind, e)) is in
      subst (λ w. Fits spec (plain spec w x.phylum) x.phylum) term.2 (plain_fits spec term.0 x.phylum term.1)
    where
      contains-at : (es : List Entry) (k : ℕ) (q : Entry) → slice_get es k ≡ Some q → Contains es q
      contains-at [] k q e = absurd (none-some q e)
      contains-at (y ∷ es) zero q e = (zero, omega arith, same_Some y q e)
      contains-at (y ∷ es) (suc k) q e = let i = contains-at es k q e in (suc i.0, (let l = i.1 in omega (arith, l)), i.2)
