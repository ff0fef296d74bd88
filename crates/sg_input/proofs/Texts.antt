-- Each text becomes something, over a specification with tables.
use Rattle.std.proofs.Common.{◌≡◌, ℕ, ◌<◌, inl, inr, true, List, [], ◌∷◌, length, refl, sym, subst, Some, None}
use Rattle.std.specs.Prelude.{◌⊎◌, Option}
use Rattle.sg_kinds.specs.Values.{Bytes, Value, Truth, Number, Chars, Tree, Fault, is_text}
use Rattle.sg_prec.specs.WellGrouped.{derives}
use Rattle.sg_kinds.specs.Sound.{IsSound}
use Rattle.sg_kinds.specs.declared.spec.Spec.{Spec}
use Rattle.sg_patterns.specs.LexemesOf.{AreLexemesOf}
use Rattle.sg_patterns.specs.declared.lexemes.Lexemes.{Lexemes}
use Rattle.sg_patterns.specs.declared.scanning.InToken.{InToken}
use Rattle.sg_patterns.proofs.ScanLaws.{text-scanned}
use Rattle.sg_grammar.specs.Derives.{Derives}
use Rattle.sg_grammar.specs.Grammar.{Grammar}
use Rattle.sg_grammar.specs.Numbered.{level_number, grammar_of}
use Rattle.sg_lalr.specs.Tables.{View, IsTables, Decided}
use Rattle.sg_machine.specs.Sentences as machine
use Rattle.sg_machine.proofs.Inputs.{each-answer}
use Rattle.sg_input.specs.Pieces.{pieces_of, AreTokens}
use Rattle.sg_input.specs.Entered.{nonterminal_of, Entered, BadByte, NoToken, Stopped, Faulted, Typed, bad_byte, place_of, AreTokensOf, IsFault, IsEntered}
use Rattle.sg_input.specs.Results.{tokens_in, results_of}
use Rattle.sg_input.proofs.Reading.{entry-of-tables, tokens-fit, text-derives, text-fails}
use Rattle.sg_input.proofs.Typing.{scanned-tokens}
use Rattle.sg_input.proofs.Answering.{none-bad}

-- a value is a fault, or it is none
fault-or-not : (v : Value) → IsFault v ⊎ (IsFault v → ⊥)
fault-or-not (Fault kind) = inl (kind, refl)
fault-or-not (Truth b) = inr (λ f. absurd (let e = f.1 in cc))
fault-or-not (Number n) = inr (λ f. absurd (let e = f.1 in cc))
fault-or-not (Chars s) = inr (λ f. absurd (let e = f.1 in cc))
fault-or-not (Tree op vs) = inr (λ f. absurd (let e = f.1 in cc))

module _ (spec : Spec) (sound : IsSound spec) (l : Lexemes) (of : AreLexemesOf spec l) (t : View) (same : t.grammar ≡ grammar_of spec) (tables : IsTables t) (m : Decided t)
    (entry : ℕ) (within : entry < length spec.entries) (text : Bytes) where
  abbrev Read : Type 0
  Read = (a : Entered) × IsEntered spec entry text a

  derived : (ts : List InToken) → AreTokensOf spec text ts → (v : Value) → derives spec (nonterminal_of spec entry) (pieces_of spec text ts) v → Read
  derived ts are v d =
      elim (fault-or-not v) [
        | inl f ↦ (Faulted f.0, (ts, are, subst (λ w. derives spec (nonterminal_of spec entry) (pieces_of spec text ts) w) f.1 d))
        | inr n ↦ (Typed v, ((ts, are, d), n))
      ]

  with-tokens : (ts : List InToken) → AreTokensOf spec text ts → AreTokens spec text ts → Read
  with-tokens ts are fit =
      let N = nonterminal_of spec entry in
      let number = level_number spec N 0 in
      let xs = tokens_in text ts in
      let low = subst (λ (g : Grammar). machine.AreTokens g xs) (sym same) (tokens-fit spec sound text ts fit) in
      elim (each-answer t tables m (results_of spec) entry number (entry-of-tables spec sound t same tables m entry within) xs low) [
        | inl a ↦
            let d = text-derives spec sound N text ts a.0 a.1 (subst (λ (g : Grammar). Derives g (results_of spec) (number ∷ []) xs (a.0 ∷ []) a.1) same a.2) in
            derived ts are d.0 d.2
        | inr a ↦ (Stopped (place_of text ts a.0), (ts, are, a.0, text-fails spec sound N text ts a.0 fit (subst (λ (g : Grammar). machine.FailsAt g number xs a.0) same a.1), refl))
      ]

  allowed : is_text text ≡ true → Read
  allowed clean =
      elim (text-scanned l text) [
        | inl s ↦ with-tokens s.0 (clean, l, of, s.1) (scanned-tokens spec sound text l of (length text) s.0 s.1)
        | inr s ↦ (NoToken s.0, (clean, l, of, s.1))
      ]

  looked : (o : Option ℕ) → o ≡ bad_byte text → Read
  looked (Some k) e = (BadByte k, sym e)
  looked None e = allowed (none-bad text e)

  pub each-text : (a : Entered) × IsEntered spec entry text a
  each-text = looked (bad_byte text) refl
