-- What follows from the answers of the calls.
use Rattle.std.proofs.Common.{◌≡◌, ℕ, suc, ◌+◌, ◌<◌, ◌≤◌, inl, inr, Bool, true, false, not, cond, List, [], ◌∷◌, length, map, refl, sym, ap, ◌∙◌, subst, arith, Some, None}
use Rattle.std.specs.Prelude.{Option, Result, Ok, Err, IfOk, IfErr, IfSome, MatchResult, MatchOption, option_map, unwrap_or, nat_lt}
use Rattle.std.specs.List.{position_or_len}
use Rattle.std.proofs.lemmas.Bool.{cases_Bool}
use Rattle.sg_kinds.specs.Values.{Bytes, Value, Fault, is_text, is_text_byte}
use Rattle.sg_kinds.specs.Fits.{Fits}
use Rattle.sg_kinds.specs.Plain.{plain}
use Rattle.sg_kinds.specs.Sound.{IsSound}
use Rattle.sg_kinds.specs.InputPieces.{InputPiece}
use Rattle.sg_prec.specs.WellGrouped.{derives}
use Rattle.sg_kinds.specs.declared.spec.Entry.{Entry}
use Rattle.sg_kinds.specs.declared.spec.Spec.{Spec}
use Rattle.sg_patterns.specs.LexemesOf.{AreLexemesOf}
use Rattle.sg_patterns.specs.declared.lexemes.Lexemes.{Lexemes}
use Rattle.sg_patterns.specs.declared.scanning.InToken.{InToken}
use Rattle.sg_grammar.specs.Numbered.{grammar_of}
use Rattle.sg_lalr.specs.Tables.{View, IsTables, Decided}
use Rattle.sg_input.specs.declared.parsing.InputFault.{InputFault}
use Rattle.sg_input.specs.declared.parsing.InputFault.TheVariants as input
use Rattle.sg_input.specs.declared.entering.EntryFault.{EntryFault}
use Rattle.sg_input.specs.declared.entering.EntryFault.TheVariants as fault
use Rattle.sg_input.specs.Pieces.{pieces_of}
use Rattle.sg_input.specs.Entered.{nonterminal_of, phylum_at, Entered, Typed, bad_byte, AreTokensOf, Gives, IsFault, IsEntered}
use Rattle.sg_input.specs.Parsed.{IsInputFault, LeavesOnly, MadeFault, entered_of, fault_in, StopsThere}
use Rattle.sg_input.proofs.Reading.{no-sentence, one-value, one-reading, entry-there}
use Rattle.sg_input.proofs.Typing.{pieces-fit, entry-fits}

-- ---- the value at the end

same-first : (v w : Value) → v ∷ [] ≡ w ∷ [] → v ≡ w
same-first v w e = cc

-- the number of one value is one
pub one-number : (f : ℕ → Value) (ids : List ℕ) (v : Value) → map f ids ≡ v ∷ [] → length ids ≡ 1
one-number f [] v e = absurd (cc)
one-number f (k ∷ []) v e = refl
one-number f (k ∷ j ∷ ids) v e = absurd (cc)

pub settled-ok : (spec : Spec) (N : ℕ) (ps : List InputPiece) (res : Result Value InputFault) (value w : Value) → value ∷ [] ≡ w ∷ [] → derives spec N ps w → IfOk res (λ v. (v ≡ value) × (IsFault value → ⊥)) → IfOk res (λ v. derives spec N ps v × (IsFault v → ⊥))
settled-ok spec N ps (Ok v) value w same d h =
    let e : w ≡ v = sym (h.0 ∙ same-first value w same) in
    (subst (derives spec N ps) e d, subst (λ z. IsFault z → ⊥) (sym h.0) h.1)
settled-ok spec N ps (Err e) value w same d h = tt

made-fault : (spec : Spec) (N : ℕ) (ps : List InputPiece) (value w : Value) (e : InputFault) → value ≡ w → derives spec N ps w → MadeFault value e → IsInputFault spec N ps e
made-fault spec N ps value w (input.Outcome kind) same d h = subst (derives spec N ps) (sym same ∙ h) d
made-fault spec N ps value w (input.At k) same d h = absurd h
made-fault spec N ps value w input.NoMemory same d h = absurd h

pub settled-err : (spec : Spec) (N : ℕ) (ps : List InputPiece) (res : Result Value InputFault) (value w : Value) → value ∷ [] ≡ w ∷ [] → derives spec N ps w → IfErr res (MadeFault value) → IfErr res (IsInputFault spec N ps)
settled-err spec N ps (Ok v) value w same d h = tt
settled-err spec N ps (Err e) value w same d h = made-fault spec N ps value w e (same-first value w same) d h

-- ---- the bytes

pub clean-text : (text : Bytes) → position_or_len (λ b. not (is_text_byte b)) text ≡ length text → is_text text ≡ true
clean-text [] h = refl
clean-text (b ∷ text) h =
    elim (cases_Bool (is_text_byte b)) [
      | inl e ↦
          let next : 1 + position_or_len (λ c. not (is_text_byte c)) text ≡ suc (length text) = sym (ap (λ z. cond (not (not z)) (1 + position_or_len (λ c. not (is_text_byte c)) text) 0) e) ∙ h in
          let i = clean-text text (omega (arith, next)) in
          rw e i
      | inr e ↦
          let none : 0 ≡ suc (length text) = sym (ap (λ z. cond (not (not z)) (1 + position_or_len (λ c. not (is_text_byte c)) text) 0) e) ∙ h in
          absurd (omega (arith, none))
    ]

position-le : {X : Type 0} (p : X → Bool) (xs : List X) → position_or_len p xs ≤ length xs
position-le p [] = omega arith
position-le p (x ∷ xs) = let i = position-le p xs in elim (p x) as (λ b. cond (not b) (1 + position_or_len p xs) 0 ≤ length (x ∷ xs)) [ true ↦ omega arith | false ↦ omega (arith, i) ]

some-none : (b : Bool) (k : ℕ) → None ≡ cond b (Some k) None → b ≡ false
some-none true k e = absurd (cc)
some-none false k e = refl

pub none-bad : (text : Bytes) → None ≡ bad_byte text → is_text text ≡ true
none-bad text e =
    let n = position_or_len (λ b. not (is_text_byte b)) text in
    let f = some-none (nat_lt n (length text)) n e in
    let l = position-le (λ b. not (is_text_byte b)) text in
    clean-text text (at-end n (length text) f l)
  where
    at-end : (a b : ℕ) → nat_lt a b ≡ false → a ≤ b → a ≡ b
    at-end a b f l = grind arith

module _ (spec : Spec) (sound : IsSound spec) (entry : ℕ) (within : entry < length spec.entries) where
  module _ (t : View) (same : t.grammar ≡ grammar_of spec) (tables : IsTables t) (m : Decided t) where
    pub only-value : (ps : List InputPiece) (res : Result Value InputFault) → IfOk res (λ v. derives spec (nonterminal_of spec entry) ps v × (IsFault v → ⊥)) → IfErr res (IsInputFault spec (nonterminal_of spec entry) ps)
        → (w : Value) → derives spec (nonterminal_of spec entry) ps w → MatchResult res (λ v. v ≡ w) (LeavesOnly w)
    only-value ps (Ok v) h k w d = one-value spec sound t same tables m entry within ps v w h.0 d
    only-value ps (Err (input.At n)) h k w d = no-sentence spec (nonterminal_of spec entry) ps n k (w, d)
    only-value ps (Err (input.Outcome kind)) h k w d = one-value spec sound t same tables m entry within ps (Fault kind) w k d
    only-value ps (Err input.NoMemory) h k w d = tt

    pub only-entered : (text : Bytes) (o : Option Entered) → MatchOption o (Unit {0}) (IsEntered spec entry text) → (a : Entered) → IsEntered spec entry text a → IfSome o (λ b. b ≡ a)
    only-entered text None h a x = tt
    only-entered text (Some b) h a x = one-reading spec sound t same tables m entry within text b a h x

  -- what a text gives fits the phylum of its entry
  given-fits : (text : Bytes) (v : Value) → Gives spec entry text v → (IsFault v → ⊥) → Fits spec (plain spec v (phylum_at spec entry)) (phylum_at spec entry)
  given-fits text v g apart =
      let x = entry-there spec entry within in
      let N : nonterminal_of spec entry ≡ x.0.nonterminal = ap (λ o. unwrap_or (option_map (λ (e : Entry). e.nonterminal) o) 0) x.1 in
      let p : phylum_at spec entry ≡ x.0.phylum = ap (λ o. unwrap_or (option_map (λ (e : Entry). e.phylum) o) 0) x.1 in
      let ts = g.1 in
      let fit = pieces-fit spec sound text ts.0 ts.1 ts.2 (length text) g.0 ts.3 in
      let d = subst (λ n. derives spec n (pieces_of spec text g.0) v) N g.2 in
      subst (λ q. Fits spec (plain spec v q) q) (sym p) (entry-fits spec sound text entry x.0 x.1 (pieces_of spec text g.0) v d fit apart)

  pub entered-fits : (text : Bytes) (res : Result Value EntryFault) → MatchOption (entered_of res) (Unit {0}) (IsEntered spec entry text) → IfOk res (λ v. Fits spec (plain spec v (phylum_at spec entry)) (phylum_at spec entry))
  entered-fits text (Ok v) h = given-fits text v h.0 h.1
  entered-fits text (Err e) h = tt

  -- what the parser answers over the tokens of a text
  pub parsed-entered : (text : Bytes) (tokens : List InToken) → AreTokensOf spec text tokens → (v : Value) → derives spec (nonterminal_of spec entry) (pieces_of spec text tokens) v × (IsFault v → ⊥) → IsEntered spec entry text (Typed v)
  parsed-entered text tokens are v d = ((tokens, are, d.0), d.1)

  pub fault-entered : (text : Bytes) (tokens : List InToken) → AreTokensOf spec text tokens → (e : InputFault) → IsInputFault spec (nonterminal_of spec entry) (pieces_of spec text tokens) e → MatchOption (entered_of (Err (fault_in text tokens e))) (Unit {0}) (IsEntered spec entry text)
  fault-entered text tokens are (input.At k) h = (tokens, are, k, h, refl)
  fault-entered text tokens are (input.Outcome kind) h = (tokens, are, h)
  fault-entered text tokens are input.NoMemory h = tt

  pub stop-entered : (text : Bytes) (l : Lexemes) → AreLexemesOf spec l → is_text text ≡ true → (e : EntryFault) → StopsThere l text e → MatchOption (entered_of (Err e)) (Unit {0}) (IsEntered spec entry text)
  stop-entered text l of clean (fault.Lexical k) h = (clean, l, of, h)
  stop-entered text l of clean fault.NoMemory h = tt
  stop-entered text l of clean (fault.Byte k) h = absurd h
  stop-entered text l of clean (fault.Parse k) h = absurd h
  stop-entered text l of clean (fault.Outcome kind) h = absurd h
