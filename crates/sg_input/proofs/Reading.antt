-- What a text becomes is one thing, over a specification with tables.
use Rattle.std.proofs.Common.{◌≡◌, ℕ, zero, suc, ◌+◌, ◌<◌, inl, inr, Bool, true, false, not, cond, List, [], ◌∷◌, ◌++◌, length, map, take, drop, refl, sym, ap, ◌∙◌, subst, arith, append_assoc, Some, None}
use Rattle.std.specs.Prelude.{slice_get, option_map, unwrap_or, nat_lt}
use Rattle.std.specs.List.{position_or_len}
use Rattle.std.proofs.lemmas.Bool.{cases_lt, cases_order}
use Rattle.std.proofs.lemmas.List.{take-map, take-take, take-append-drop, length-map}
use Rattle.std.proofs.lemmas.List.Elements.{All-head, All-tail, All-map}
use Rattle.std.proofs.lemmas.Option.{same_Some, none-some}
use Rattle.sg_kinds.specs.Values.{Bytes, Value, Fault, is_text, is_text_byte}
use Rattle.sg_kinds.specs.SameValue.{both}
use Rattle.sg_kinds.specs.Sound.{IsSound}
use Rattle.sg_kinds.specs.InputPieces.{InputPiece}
use Rattle.sg_prec.specs.WellGrouped.{IsSentence, derives}
use Rattle.sg_kinds.specs.declared.marks.FaultKind.{FaultKind}
use Rattle.sg_kinds.specs.declared.spec.Entry.{Entry}
use Rattle.sg_kinds.specs.declared.spec.Spec.{Spec}
use Rattle.sg_patterns.specs.LexemesOf.{AreLexemesOf}
use Rattle.sg_patterns.specs.Scan.{StopsAt}
use Rattle.sg_patterns.specs.declared.lexemes.Lexemes.{Lexemes}
use Rattle.sg_patterns.specs.declared.scanning.InToken.{InToken}
use Rattle.sg_patterns.proofs.ScanLaws.{tokens-unique, scanned-never-stops, one-stop, same-scan, same-stop}
use Rattle.sg_grammar.specs.Grammar.{Grammar}
use Rattle.sg_grammar.specs.Derives.{Token, Derives, plain}
use Rattle.sg_grammar.specs.Numbered.{level_number, start_of, starts_of, grammar_of}
use Rattle.sg_lalr.specs.Tables.{View, IsTables, Decided}
use Rattle.sg_machine.specs.Sentences as machine
use Rattle.sg_machine.proofs.Derivations.{retold, one-result}
use Rattle.sg_machine.proofs.Ends.{one-derivation}
use Rattle.sg_input.specs.Pieces.{part, piece_of, pieces_of, IsToken, AreTokens}
use Rattle.sg_input.specs.Failing.{BeginsSentence, FailsAt}
use Rattle.sg_input.specs.Entered.{nonterminal_of, Entered, BadByte, NoToken, Stopped, Faulted, Typed, bad_byte, place_of, AreTokensOf, Gives, IsEntered}
use Rattle.sg_input.specs.Results.{token_in, tokens_in, results_of}
use Rattle.sg_input.proofs.Symbols.{terminal-back}
use Rattle.sg_input.proofs.Bridge.{piece_for, token_for, map-append, nonterminal-derives, numbers-derive}

-- ---- where pieces fail

pub no-sentence : (spec : Spec) (N : ℕ) (ps : List InputPiece) (k : ℕ) → FailsAt spec N ps k → IsSentence spec N ps → ⊥
no-sentence spec N ps k f s =
    elim (cases_lt k (length ps)) [
      | inl low ↦ f.before low (drop (suc k) ps, subst (λ z. IsSentence spec N z) (sym (take-append-drop (suc k) ps)) s)
      | inr high ↦ f.at_end (let l = f.within in omega (arith, high, l)) s
    ]

not-later : (spec : Spec) (N : ℕ) (ps : List InputPiece) (k j : ℕ) → FailsAt spec N ps k → FailsAt spec N ps j → k < j → ⊥
not-later spec N ps k j f h low =
    let b = h.begins in
    let cut : take j ps ≡ take (suc k) ps ++ drop (suc k) (take j ps) = sym (take-append-drop (suc k) (take j ps)) ∙ ap (λ z. z ++ drop (suc k) (take j ps)) (take-take (suc k) j ps low) in
    let whole = ap (λ z. z ++ b.0) cut ∙ append_assoc (take (suc k) ps) (drop (suc k) (take j ps)) b.0 in
    f.before (let l = h.within in omega (arith, l, low)) (drop (suc k) (take j ps) ++ b.0, subst (λ z. IsSentence spec N z) whole b.1)

pub one-place : (spec : Spec) (N : ℕ) (ps : List InputPiece) (k j : ℕ) → FailsAt spec N ps k → FailsAt spec N ps j → k ≡ j
one-place spec N ps k j f h =
    elim (cases_order k j) [
      | inl e ↦ e
      | inr apart ↦ elim apart [ inl less ↦ absurd (not-later spec N ps k j f h less) | inr more ↦ absurd (not-later spec N ps j k h f more) ]
    ]

starts-at : (spec : Spec) (a : ℕ) (es : List Entry) (k : ℕ) (x : Entry) → slice_get es k ≡ Some x → slice_get (starts_of spec a es) k ≡ Some (start_of spec (a + k) x)
starts-at spec a [] k x e = absurd (none-some x e)
starts-at spec a (y ∷ es) zero x e = ap (λ z. Some (start_of spec a z)) (same_Some y x e) ∙ ap (λ z. Some (start_of spec z x)) (omega arith)
starts-at spec a (y ∷ es) (suc k) x e = starts-at spec (suc a) es k x e ∙ ap (λ z. Some (start_of spec z x)) (omega arith)

pub entry-there : (spec : Spec) (k : ℕ) → k < length spec.entries → (x : Entry) × (slice_get spec.entries k ≡ Some x)
entry-there spec k l = by spec.entries k l
  where
    by : (es : List Entry) (j : ℕ) → j < length es → (x : Entry) × (slice_get es j ≡ Some x)
    by [] j l = absurd (omega (arith, l))
    by (x ∷ es) zero l = (x, refl)
    by (x ∷ es) (suc j) l = by es j (omega (arith, l))

-- the start production of an entry
pub is-entry : (spec : Spec) (k : ℕ) → k < length spec.entries → machine.IsEntry (grammar_of spec) k (level_number spec (nonterminal_of spec k) 0)
is-entry spec k l =
    let x = entry-there spec k l in
    let named : nonterminal_of spec k ≡ x.0.nonterminal = ap (λ o. unwrap_or (option_map (λ (e : Entry). e.nonterminal) o) 0) x.1 in
    (start_of spec (0 + k) x.0, starts-at spec 0 spec.entries k x.0 x.1, same-right (0 + k) x.0.nonterminal (omega arith) (sym named))
  where
    same-right : (j n : ℕ) → j ≡ k → n ≡ nonterminal_of spec k → suc j ∷ level_number spec n 0 ∷ [] ≡ suc k ∷ level_number spec (nonterminal_of spec k) 0 ∷ []
    same-right j n e f = ap (λ z. suc z ∷ level_number spec n 0 ∷ []) e ∙ ap (λ z. suc k ∷ level_number spec z 0 ∷ []) f

module _ (spec : Spec) (sound : IsSound spec) where
  -- ---- tokens and pieces

  pub pieces-of-tokens : (text : Bytes) (ts : List InToken) → map (piece_for spec) (tokens_in text ts) ≡ pieces_of spec text ts
  pieces-of-tokens text [] = refl
  pieces-of-tokens text (x ∷ ts) = ap (λ z. piece_of spec text x ∷ z) (pieces-of-tokens text ts)

  pub tokens-of-pieces : (text : Bytes) (ts : List InToken) → AreTokens spec text ts → map (token_for spec) (pieces_of spec text ts) ≡ tokens_in text ts
  tokens-of-pieces text [] h = refl
  tokens-of-pieces text (x ∷ ts) h =
      let t = All-head (IsToken spec text) x ts h in
      let number = terminal-back spec sound x.terminal t.0 t.1 in
      ap (λ z. let y : Token = record { terminal = z; text = part text x.from x.to } in y ∷ map (token_for spec) (pieces_of spec text ts)) number
      ∙ ap (λ z. token_in text x ∷ z) (tokens-of-pieces text ts (All-tail (IsToken spec text) x ts h))

  pub tokens-fit : (text : Bytes) (ts : List InToken) → AreTokens spec text ts → machine.AreTokens (grammar_of spec) (tokens_in text ts)
  tokens-fit text ts h = All-map (λ (x : Token). (0 < x.terminal) × (x.terminal < (grammar_of spec).terminals)) (token_in text) ts (λ k d l. let t = h k d l in let a = t.0 in (omega (arith, a), t.1))

  -- ---- sentences

  pub sentence-in : (N : ℕ) (ps : List InputPiece) → IsSentence spec N ps → machine.IsSentenceOf (grammar_of spec) (level_number spec N 0) (map (token_for spec) ps)
  sentence-in N ps s =
      let d = numbers-derive spec sound N ps s.0 s.1 in
      let p = retold (grammar_of spec) (results_of spec) plain (level_number spec N 0 ∷ []) (map (token_for spec) ps) ((s.0 ∷ []) ∷ []) d.0 d.1 in
      (p.0, d.0, p.1)

  pub sentence-out : (N : ℕ) (ts : List Token) → machine.IsSentenceOf (grammar_of spec) (level_number spec N 0) ts → IsSentence spec N (map (piece_for spec) ts)
  sentence-out N ts s =
      let p = retold (grammar_of spec) plain (results_of spec) (level_number spec N 0 ∷ []) ts s.0 s.1 s.2 in
      let o = one-result (grammar_of spec) (results_of spec) (level_number spec N 0) ts p.0 s.1 p.1 in
      let d = nonterminal-derives spec sound N ts o.0 s.1 (subst (λ z. Derives (grammar_of spec) (results_of spec) (level_number spec N 0 ∷ []) ts z s.1) o.1 p.1) in
      (d.0, d.2)

  begins-in : (N : ℕ) (ps : List InputPiece) → BeginsSentence spec N ps → machine.BeginsSentence (grammar_of spec) (level_number spec N 0) (map (token_for spec) ps)
  begins-in N ps b = (map (token_for spec) b.0, subst (λ z. machine.IsSentenceOf (grammar_of spec) (level_number spec N 0) z) (map-append (token_for spec) ps b.0) (sentence-in N (ps ++ b.0) b.1))

  begins-out : (N : ℕ) (ts : List Token) → machine.BeginsSentence (grammar_of spec) (level_number spec N 0) ts → BeginsSentence spec N (map (piece_for spec) ts)
  begins-out N ts b = (map (piece_for spec) b.0, subst (λ z. IsSentence spec N z) (map-append (piece_for spec) ts b.0) (sentence-out N (ts ++ b.0) b.1))

  pub fails-out : (N : ℕ) (ts : List Token) (k : ℕ) → map (token_for spec) (map (piece_for spec) ts) ≡ ts → machine.FailsAt (grammar_of spec) (level_number spec N 0) ts k → FailsAt spec N (map (piece_for spec) ts) k
  fails-out N ts k back f =
      let long = length-map ts (piece_for spec) in
      record {
        within = let l = f.within in omega (arith, l, long);
        begins = subst (λ z. BeginsSentence spec N z) (sym (take-map (piece_for spec) k ts)) (begins-out N (take k ts) f.begins);
        before = λ low b.
            let i = begins-in N (take (suc k) (map (piece_for spec) ts)) b in
            let front : map (token_for spec) (take (suc k) (map (piece_for spec) ts)) ≡ take (suc k) ts = sym (take-map (token_for spec) (suc k) (map (piece_for spec) ts)) ∙ ap (take (suc k)) back in
            f.before (omega (arith, low, long)) (subst (λ z. machine.BeginsSentence (grammar_of spec) (level_number spec N 0) z) front i);
        at_end = λ e s. f.at_end (omega (arith, e, long)) (subst (λ z. machine.IsSentenceOf (grammar_of spec) (level_number spec N 0) z) back (sentence-in N (map (piece_for spec) ts) s));
      }

  -- for the tokens of a text
  pub text-fails : (N : ℕ) (text : Bytes) (ts : List InToken) (k : ℕ) → AreTokens spec text ts → machine.FailsAt (grammar_of spec) (level_number spec N 0) (tokens_in text ts) k → FailsAt spec N (pieces_of spec text ts) k
  text-fails N text ts k h f =
      let same = pieces-of-tokens text ts in
      let back = ap (map (token_for spec)) same ∙ tokens-of-pieces text ts h in
      subst (λ z. FailsAt spec N z k) same (fails-out N (tokens_in text ts) k back f)

  pub text-derives : (N : ℕ) (text : Bytes) (ts : List InToken) (b : List Value) (n : ℕ) → Derives (grammar_of spec) (results_of spec) (level_number spec N 0 ∷ []) (tokens_in text ts) (b ∷ []) n → (v : Value) × (b ≡ v ∷ []) × derives spec N (pieces_of spec text ts) v
  text-derives N text ts b n d =
      let r = nonterminal-derives spec sound N (tokens_in text ts) b n d in
      (r.0, r.1, subst (λ z. derives spec N z r.0) (pieces-of-tokens text ts) r.2)

  -- ---- one value, over tables

  same-value : (v w : Value) → (v ∷ []) ≡ (w ∷ []) → v ≡ w
  same-value v w e = cc

  module _ (t : View) (same : t.grammar ≡ grammar_of spec) (tables : IsTables t) (m : Decided t) where
    pub entry-of-tables : (k : ℕ) → k < length spec.entries → machine.IsEntry t.grammar k (level_number spec (nonterminal_of spec k) 0)
    entry-of-tables k l = subst (λ g. machine.IsEntry g k (level_number spec (nonterminal_of spec k) 0)) (sym same) (is-entry spec k l)

    pub one-value : (k : ℕ) → k < length spec.entries → (ps : List InputPiece) (v w : Value) → derives spec (nonterminal_of spec k) ps v → derives spec (nonterminal_of spec k) ps w → v ≡ w
    one-value k l ps v w d e =
        let N = nonterminal_of spec k in
        let x = numbers-derive spec sound N ps v d in
        let y = numbers-derive spec sound N ps w e in
        let D = λ (g : Grammar) (b : List Value) (n : ℕ). Derives g (results_of spec) (level_number spec N 0 ∷ []) (map (token_for spec) ps) (b ∷ []) n in
        let o = one-derivation t tables m (results_of spec) k (level_number spec N 0) (entry-of-tables k l) [] (map (token_for spec) ps) (v ∷ []) (w ∷ []) x.0 y.0
        (subst (λ g. D g (v ∷ []) x.0) (sym same) x.1) (subst (λ g. D g (w ∷ []) y.0) (sym same) y.1) in
        same-value v w o.0

    -- ---- one answer

    clean : (text : Bytes) → is_text text ≡ true → position_or_len (λ b. not (is_text_byte b)) text ≡ length text
    clean [] h = refl
    clean (b ∷ text) h = let t = both (is_text_byte b) (is_text text) h in let i = clean text t.1 in rw t.0 (omega (arith, i))

    none-bad : (n k : ℕ) (b : Bool) → b ≡ false → cond b (Some n) None ≡ Some k → ⊥
    none-bad n k true e h = absurd (cc)
    none-bad n k false e h = absurd (none-some k h)

    no-bad : (text : Bytes) (k : ℕ) → is_text text ≡ true → bad_byte text ≡ Some k → ⊥
    no-bad text k h e =
        let n = position_or_len (λ b. not (is_text_byte b)) text in
        let c = clean text h in
        let low : nat_lt n (length text) ≡ false = rw c (not-below (length text)) in
        none-bad n k (nat_lt n (length text)) low e
      where
        not-below : (j : ℕ) → nat_lt j j ≡ false
        not-below j = grind arith

    same-tokens : (text : Bytes) (ts us : List InToken) → AreTokensOf spec text ts → AreTokensOf spec text us → ts ≡ us
    same-tokens text ts us a b = tokens-unique b.1 text ts us (same-scan spec a.1 b.1 a.2 b.2 text (length text) ts a.3) b.3

    never-both : (text : Bytes) (ts : List InToken) (k : ℕ) → AreTokensOf spec text ts → (l : Lexemes) → AreLexemesOf spec l → StopsAt l text k → ⊥
    never-both text ts k a l of s = scanned-never-stops l text ts k (same-scan spec a.1 l a.2 of text (length text) ts a.3) s

    module _ (entry : ℕ) (within : entry < length spec.entries) (text : Bytes) where
      abbrev N : ℕ
      N = nonterminal_of spec entry

      same-given : (v w : Value) → Gives spec entry text v → Gives spec entry text w → v ≡ w
      same-given v w a b =
          one-value entry within (pieces_of spec text b.0) v w (subst (λ ts. derives spec (nonterminal_of spec entry) (pieces_of spec text ts) v) (same-tokens text a.0 b.0 a.1 b.1) a.2) b.2

      stopped-given : (k : ℕ) (v : Value) → IsEntered spec entry text (Stopped k) → Gives spec entry text v → ⊥
      stopped-given k v a b =
          no-sentence spec (nonterminal_of spec entry) (pieces_of spec text b.0) a.2 (subst (λ ts. FailsAt spec (nonterminal_of spec entry) (pieces_of spec text ts) a.2) (same-tokens text a.0 b.0 a.1 b.1) a.3) (v, b.2)

      stopped-stopped : (k j : ℕ) → IsEntered spec entry text (Stopped k) → IsEntered spec entry text (Stopped j) → k ≡ j
      stopped-stopped k j a b =
          let e = same-tokens text a.0 b.0 a.1 b.1 in
          let i = one-place spec (nonterminal_of spec entry) (pieces_of spec text b.0) a.2 b.2 (subst (λ ts. FailsAt spec (nonterminal_of spec entry) (pieces_of spec text ts) a.2) e a.3) b.3 in
          a.4 ∙ (ap (λ ts. place_of text ts a.2) e ∙ (ap (λ z. place_of text b.0 z) i ∙ sym b.4))

      same-fault : (a b : FaultKind) → Fault a ≡ Fault b → Faulted a ≡ Faulted b
      same-fault a b e = let f : a ≡ b = cc in ap Faulted f

      pub one-reading : (a b : Entered) → IsEntered spec entry text a → IsEntered spec entry text b → a ≡ b
      one-reading (BadByte k) (BadByte j) x y = ap BadByte (same_Some k j (sym x ∙ y))
      one-reading (BadByte k) (NoToken j) x y = absurd (no-bad text k y.0 x)
      one-reading (BadByte k) (Stopped j) x y = absurd (no-bad text k y.1.0 x)
      one-reading (BadByte k) (Faulted j) x y = absurd (no-bad text k y.1.0 x)
      one-reading (BadByte k) (Typed v) x y = absurd (no-bad text k y.0.1.0 x)
      one-reading (NoToken k) (BadByte j) x y = absurd (no-bad text j x.0 y)
      one-reading (NoToken k) (NoToken j) x y = ap NoToken (one-stop y.1 text k j (same-stop spec x.1 y.1 x.2 y.2 text k x.3) y.3)
      one-reading (NoToken k) (Stopped j) x y = absurd (never-both text y.0 k y.1 x.1 x.2 x.3)
      one-reading (NoToken k) (Faulted j) x y = absurd (never-both text y.0 k y.1 x.1 x.2 x.3)
      one-reading (NoToken k) (Typed v) x y = absurd (never-both text y.0.0 k y.0.1 x.1 x.2 x.3)
      one-reading (Stopped k) (BadByte j) x y = absurd (no-bad text j x.1.0 y)
      one-reading (Stopped k) (NoToken j) x y = absurd (never-both text x.0 j x.1 y.1 y.2 y.3)
      one-reading (Stopped k) (Stopped j) x y = ap Stopped (stopped-stopped k j x y)
      one-reading (Stopped k) (Faulted j) x y = absurd (stopped-given k (Fault j) x y)
      one-reading (Stopped k) (Typed v) x y = absurd (stopped-given k v x y.0)
      one-reading (Faulted k) (BadByte j) x y = absurd (no-bad text j x.1.0 y)
      one-reading (Faulted k) (NoToken j) x y = absurd (never-both text x.0 j x.1 y.1 y.2 y.3)
      one-reading (Faulted k) (Stopped j) x y = absurd (stopped-given j (Fault k) y x)
      one-reading (Faulted k) (Faulted j) x y = same-fault k j (same-given (Fault k) (Fault j) x y)
      one-reading (Faulted k) (Typed v) x y = absurd (y.1 (k, same-given v (Fault k) y.0 x))
      one-reading (Typed v) (BadByte j) x y = absurd (no-bad text j x.0.1.0 y)
      one-reading (Typed v) (NoToken j) x y = absurd (never-both text x.0.0 j x.0.1 y.1 y.2 y.3)
      one-reading (Typed v) (Stopped j) x y = absurd (stopped-given j v y x.0)
      one-reading (Typed v) (Faulted j) x y = absurd (x.1 (j, same-given v (Fault j) x.0 y))
      one-reading (Typed v) (Typed w) x y = ap Typed (same-given v w x.0 y.0)
