-- A level of a sound specification derives something exactly where its nonterminal has a sentence.
use Rattle.std.proofs.Common.{◌≡◌, ℕ, zero, suc, ◌<◌, ◌≤◌, List, [], ◌∷◌, map, refl, sym, ap, ◌∙◌, subst, arith, inl, inr}
use Rattle.std.specs.Prelude.{All}
use Rattle.std.proofs.lemmas.Bool.{cases_lt, cases_order}
use Rattle.std.proofs.lemmas.List.Elements.{All-cons, All-nil}
use Rattle.sg_kinds.specs.Values.{Value}
use Rattle.sg_kinds.specs.InputPieces.{InputPiece}
use Rattle.sg_kinds.specs.Sound.{IsSound}
use Rattle.sg_kinds.specs.declared.spec.Spec.{Spec}
use Rattle.sg_prec.specs.Levels.{height}
use Rattle.sg_prec.specs.LevelDerives.{LevelDerives, level_derives}
use Rattle.sg_prec.specs.declared.productions.LevelSymbol.TheVariants.{Level}
use Rattle.sg_prec.proofs.Between.{to_written, first_from, first_to}
use Rattle.sg_prec.proofs.Descent.{each_level, first_level}
use Rattle.sg_grammar.specs.Derives.{Token, nothing, token, plain, IsProductive, IsFirstUnproductive}
use Rattle.sg_grammar.specs.Numbered.{first_nonterminal, level_number, grammar_of}
use Rattle.sg_grammar.proofs.LevelNumbers.{level_next, level_under, level_there, level_within}
use Rattle.sg_machine.proofs.Derivations.{retold}
use Rattle.sg_input.specs.Results.{joined, results_of}
use Rattle.sg_input.specs.Unproductive.{HasSentence, IsFirstWithoutSentence}
use Rattle.sg_input.proofs.Symbols.{IsLevelSymbol}
use Rattle.sg_input.proofs.Bridge.{piece_for, token_for, to-symbols, to-numbers, one-value}

module _ (spec : Spec) (sound : IsSound spec) where
  -- the level derives something
  abbrev Derived : ℕ → ℕ → Type 0
  Derived N i = (ts : List InputPiece) × (v : Value) × level_derives spec N i ts v

  level-fits : (N i : ℕ) → i ≤ height spec.levels spec.productions N → All (IsLevelSymbol spec sound) (Level N i ∷ [])
  level-fits N i low = All-cons (IsLevelSymbol spec sound) (Level N i) [] low (All-nil (IsLevelSymbol spec sound))

  to-derived : (N i : ℕ) → i ≤ height spec.levels spec.productions N → IsProductive (grammar_of spec) (level_number spec N i) → Derived N i
  to-derived N i low (ts, vs, n, d) =
      let r = retold (grammar_of spec) plain (results_of spec) (level_number spec N i ∷ []) ts vs n d in
      let e = to-symbols spec sound (level_number spec N i ∷ []) ts r.0 n r.1 (Level N i ∷ []) (level-fits N i low) refl in
      let w = to_written spec (Level N i ∷ []) (map (piece_for spec) ts) (joined r.0) n e in
      let o = one-value spec sound N (map (piece_for spec) ts) (joined r.0) w.0 w.1 w.2 in
      (map (piece_for spec) ts, o.0, (n, subst (λ z. LevelDerives spec (Level N i ∷ []) (map (piece_for spec) ts) z n) o.1 e))

  from-derived : (N i : ℕ) → i ≤ height spec.levels spec.productions N → Derived N i → IsProductive (grammar_of spec) (level_number spec N i)
  from-derived N i low (ts, v, (n, d)) =
      let r = to-numbers spec sound (Level N i ∷ []) ts (v ∷ []) n d (level-fits N i low) in
      let p = retold (grammar_of spec) (results_of spec) plain (level_number spec N i ∷ []) (map (token_for spec) ts) r.0 n r.2 in
      (map (token_for spec) ts, p.0, n, p.1)

  to-sentence : (N : ℕ) → IsProductive (grammar_of spec) (level_number spec N 0) → HasSentence spec N
  to-sentence N p = let d = to-derived N 0 (omega arith) p in (d.0, (d.1, first_to spec N d.0 d.1 d.2))

  from-sentence : (N i : ℕ) → i ≤ height spec.levels spec.productions N → HasSentence spec N → IsProductive (grammar_of spec) (level_number spec N i)
  from-sentence N i low (ts, (v, d)) = from-derived N i low (each_level spec N i low (ts, v, first_from spec N ts v d))

  of-terminal : (X : ℕ) → X < first_nonterminal spec → IsProductive (grammar_of spec) X
  of-terminal X low = let x : Token = record { terminal = X; text = [] } in (x ∷ [], tt ∷ [], 1, token x X [] [] [] 0 low refl nothing)

  -- ---- the first that derives nothing

  is-first-level : (N i : ℕ) → i ≤ height spec.levels spec.productions N → (IsProductive (grammar_of spec) (level_number spec N i) → ⊥)
      → ((Y : ℕ) → Y < level_number spec N i → IsProductive (grammar_of spec) Y) → i ≡ 0
  is-first-level N zero low none first = refl
  is-first-level N (suc i) low none first =
      let under = first (level_number spec N i) (let up = level_next spec N i in omega (arith, up)) in
      absurd (none (from-sentence N (suc i) low (of-level under)))
    where
      of-level : IsProductive (grammar_of spec) (level_number spec N i) → HasSentence spec N
      of-level p = let d = to-derived N i (omega (arith, low)) p in let f = first_level spec N i d in (f.0, (f.1, first_to spec N f.0 f.1 f.2))

  pub to-written : (X : ℕ) → IsFirstUnproductive (grammar_of spec) X → IsFirstWithoutSentence spec X
  to-written X u = elim (cases_lt X (first_nonterminal spec)) [
    | inl low ↦ absurd (u.derives_none (of-terminal X low))
    | inr high ↦
        let at = level_there spec X high u.within in
        let N = at.0 in
        let is : X ≡ level_number spec N at.1 = at.4 in
        let none = subst (λ Y. IsProductive (grammar_of spec) Y → ⊥) is u.derives_none in
        let first = subst (λ Z. (Y : ℕ) → Y < Z → IsProductive (grammar_of spec) Y) is u.first in
        let zeroth = is-first-level N at.1 at.3 none first in
        record {
          nonterminal = N;
          named = at.2;
          number = is ∙ ap (level_number spec N) zeroth;
          none = λ s. none (from-sentence N at.1 at.3 s);
          before = λ M less. to-sentence M (first (level_number spec M 0) (level_under spec M N 0 at.1 (omega arith) less));
        }
  ]

  not-behind : (N M j : ℕ) → level_number spec M j < level_number spec N 0 → M < N
  not-behind N M j low = elim (cases_order M N) [
    | inl same ↦ absurd (let e = ap (λ z. level_number spec z j) same in let up = from-first N j in omega (arith, low, e, up))
    | inr (inl less) ↦ less
    | inr (inr more) ↦ absurd (let up = level_under spec N M 0 j (omega arith) more in omega (arith, low, up))
  ]
    where
      from-first : (K i : ℕ) → level_number spec K 0 ≤ level_number spec K i
      from-first K zero = omega arith
      from-first K (suc i) = let up = from-first K i in let next = level_next spec K i in omega (arith, up, next)

  pub from-written : (X : ℕ) → IsFirstWithoutSentence spec X → IsFirstUnproductive (grammar_of spec) X
  from-written X f =
      let N = f.nonterminal in
      let is : X ≡ level_number spec N 0 = f.number in
      let within = level_within spec N 0 f.named (omega arith) in
      record {
        within = omega (arith, is, within);
        derives_none = λ p. f.none (to-sentence N (subst (λ Y. IsProductive (grammar_of spec) Y) is p));
        first = λ Y low. elim (cases_lt Y (first_nonterminal spec)) [
          | inl terminal ↦ of-terminal Y terminal
          | inr high ↦
              let at = level_there spec Y high (omega (arith, is, within, low)) in
              let here : Y ≡ level_number spec at.0 at.1 = at.4 in
              let less = not-behind N at.0 at.1 (omega (arith, here, is, low)) in
              subst (λ Z. IsProductive (grammar_of spec) Z) (sym here) (from-sentence at.0 at.1 at.3 (f.before at.0 less))
        ];
      }
