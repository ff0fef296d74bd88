-- A nonterminal that derives anything derives something from its last level.
use Rattle.std.specs.Prelude.{◌≡◌, ℕ, suc, ◌+◌, ◌≤◌, ◌⊎◌, ◌&&◌, Bool, true, false, cond, nat_eq, List, [], ◌∷◌, Option, Some, None, option_and_then, Contains, IsTrue}
use Rattle.std.proofs.Common.{refl, sym, ap, ◌∙◌, subst, arith, inl, inr}
use Rattle.std.proofs.lemmas.Bool.{and_parts, eqb-true}
use Rattle.std.proofs.lemmas.List.{append-nil}
use Rattle.sg_kinds.specs.Values.{Value}
use Rattle.sg_kinds.specs.InputPieces.{InputPiece}
use Rattle.sg_kinds.specs.Outcome.{outcome_of}
use Rattle.sg_kinds.specs.declared.spec.LevelLine.{LevelLine}
use Rattle.sg_kinds.specs.declared.spec.Production.{Production}
use Rattle.sg_kinds.specs.declared.spec.Spec.{Spec}
use Rattle.sg_kinds.specs.declared.spec.Symbol.{Symbol}
use Rattle.sg_kinds.specs.declared.spec.Symbol.TheVariants.{Quoted, Nonterminal}
use Rattle.sg_prec.specs.Precedence.{line_with, literal_between, infix_line, is_grouped}
use Rattle.sg_prec.specs.Levels.{height, level_by, level_of}
use Rattle.sg_prec.specs.WellGrouped.{Derives, nothing, literal, lexeme, under}
use Rattle.sg_prec.specs.LevelDerives.{level_derives}
use Rattle.sg_prec.proofs.Between.{level_from, level_to}

-- an infix production begins with its nonterminal
begins_itself : (lines : List LevelLine) (N : ℕ) (Xs : List Symbol) → (option_and_then (line_with lines) (literal_between N Xs) ≡ None) ⊎ ((Ys : List Symbol) × (Xs ≡ Nonterminal N ∷ Ys))
begins_itself lines N (Nonterminal a ∷ Quoted s ∷ Nonterminal b ∷ []) = either (nat_eq N a && nat_eq N b) refl
  where
    either : (c : Bool) → (nat_eq N a && nat_eq N b) ≡ c
        → (option_and_then (line_with lines) (cond c (Some s) None) ≡ None) ⊎ ((Ys : List Symbol) × (Nonterminal a ∷ Quoted s ∷ Nonterminal b ∷ [] ≡ Nonterminal N ∷ Ys))
    either false e = inl refl
    either true e = let is = eqb-true N a (and_parts (nat_eq N a) (nat_eq N b) e).0 in inr (Quoted s ∷ Nonterminal b ∷ [], ap (λ M. Nonterminal M ∷ Quoted s ∷ Nonterminal b ∷ []) (sym is))
begins_itself lines N Xs = inl refl

module _ (spec : Spec) where
  -- a derivation whose top is no infix production
  pub record IsAlone (N : ℕ) : Type 0 where
    pub top : Production
    pub text : List InputPiece
    pub value : Value
    pub nodes : ℕ
    pub below : Derives spec (Nonterminal N ∷ []) text (value ∷ []) (Some top ∷ []) nodes
    pub left : top.left ≡ N
    pub line : infix_line spec.levels top ≡ None

  alone_here : (r : Production) (us : List InputPiece) (ws : List Value) (below : List (Option Production)) (m : ℕ) → Contains spec.productions r → IsTrue (is_grouped spec.levels r below)
      → Derives spec r.right us ws below m → infix_line spec.levels r ≡ None → IsAlone r.left
  alone_here r us ws below m c g d is = record {
    top = r;
    text = us;
    value = outcome_of spec r.expr ws;
    nodes = suc (m + 0);
    below = under r [] us [] us ws [] below [] m 0 (m + 0) c g d nothing (sym (append-nil us)) refl;
    left = refl;
    line = is;
  }

  alone : (N : ℕ) (Ys Xs : List Symbol) (ts : List InputPiece) (vs : List Value) (bs : List (Option Production)) (n : ℕ) → Derives spec Xs ts vs bs n → Xs ≡ Nonterminal N ∷ Ys → IsAlone N
  alone N Ys _ _ _ _ _ nothing e = absurd (cc e)
  alone N Ys _ _ _ _ _ (literal s text Xs ts vs bs n d) e = absurd (cc e)
  alone N Ys _ _ _ _ _ (lexeme l text Xs ts vs bs n d) e = absurd (cc e)
  alone N Ys _ _ _ _ _ (under r Xs us ts all ws vs below bs m n k c g d f split count) e =
      let same : r.left ≡ N = cc in
      subst IsAlone same (elim (begins_itself spec.levels r.left r.right) [
        | inl is ↦ alone_here r us ws below m c g d is
        | inr (Zs, is) ↦ alone r.left Zs r.right us ws below m d is
      ])

  at_last : (N : ℕ) → IsAlone N → (i : ℕ) → i ≤ height spec.levels spec.productions N → (ts : List InputPiece) × (v : Value) × level_derives spec N i ts v
  at_last N a i low =
      let last : level_of spec.levels spec.productions a.top ≡ height spec.levels spec.productions N =
      ap (level_by spec.levels spec.productions a.top.left) a.line ∙ ap (height spec.levels spec.productions) a.left in
      (a.text, a.value, level_from spec N i a.text a.value a.top a.nodes a.below (subst (λ h. i ≤ h) (sym last) low))

  pub each_level : (N i : ℕ) → i ≤ height spec.levels spec.productions N → (ts : List InputPiece) × (v : Value) × level_derives spec N 0 ts v → (ts : List InputPiece) × (v : Value) × level_derives spec N i ts v
  each_level N i low (ts, v, d) = let a = level_to spec N 0 ts v d in at_last N (alone N [] (Nonterminal N ∷ []) ts (v ∷ []) (Some a.0 ∷ []) a.1 a.2 refl) i low

  pub first_level : (N i : ℕ) → (ts : List InputPiece) × (v : Value) × level_derives spec N i ts v → (ts : List InputPiece) × (v : Value) × level_derives spec N 0 ts v
  first_level N i (ts, v, d) = let a = level_to spec N i ts v d in (ts, v, level_from spec N 0 ts v a.0 a.1 a.2 (omega arith))
