-- What stands directly below the symbols of a string, in the written grammar and in the spread one.
use Rattle.std.specs.Prelude.{◌≡◌, ℕ, suc, ◌≤◌, ◌↔◌, Bool, true, false, cond, not, ◌&&◌, List, [], ◌∷◌, map, nat_eq, Option, Some, None, is_some, option_and_then, Contains, IsTrue}
use Rattle.std.proofs.Common.{refl, sym, ap, ◌∙◌, subst, arith}
use Rattle.std.proofs.lemmas.Bool.{and_parts, and_from, eqb-true}
use Rattle.sg_kinds.specs.Values.{Bytes, Value}
use Rattle.sg_kinds.specs.InputPieces.{InputPiece}
use Rattle.sg_kinds.specs.declared.spec.LevelLine.{LevelLine}
use Rattle.sg_kinds.specs.declared.spec.Production.{Production}
use Rattle.sg_kinds.specs.declared.spec.Spec.{Spec}
use Rattle.sg_kinds.specs.declared.spec.Symbol.{Symbol}
use Rattle.sg_kinds.specs.declared.spec.Symbol.TheVariants.{Quoted, Lexical, Nonterminal}
use Rattle.sg_prec.specs.Precedence.{line_with, literal_between, infix_line, groups_left, groups_right, may_stand, is_before_itself, is_grouped_by}
use Rattle.sg_prec.specs.Levels.{height, rank, level_by, level_of}
use Rattle.sg_prec.specs.Spread.{LevelSymbol, lowered, spread_right}
use Rattle.sg_prec.specs.declared.productions.LevelSymbol.TheVariants as level
use Rattle.sg_prec.specs.WellGrouped.{Derives, nothing, literal, lexeme, under}
use Rattle.sg_prec.proofs.Ranks.{IsLine, last_alone, stands_high}

-- a production of the nonterminal, and none below a terminal
abbrev pub IsTop : List Production → Symbol → Option Production → Type 0
IsTop ps (Quoted s) b = b ≡ None
IsTop ps (Lexical l) b = b ≡ None
IsTop ps (Nonterminal N) None = ⊥
IsTop ps (Nonterminal N) (Some r) = (r.left ≡ N) × Contains ps r

abbrev pub AreTops : List Production → List Symbol → List (Option Production) → Type 0
AreTops ps [] [] = Unit {0}
AreTops ps [] (b ∷ bs) = ⊥
AreTops ps (X ∷ Xs) [] = ⊥
AreTops ps (X ∷ Xs) (b ∷ bs) = IsTop ps X b × AreTops ps Xs bs

-- the same, of the level or a later one
abbrev pub IsAbove : List LevelLine → List Production → LevelSymbol → Option Production → Type 0
IsAbove lines ps (level.Quoted s) b = b ≡ None
IsAbove lines ps (level.Lexical l) b = b ≡ None
IsAbove lines ps (level.Level N i) None = ⊥
IsAbove lines ps (level.Level N i) (Some r) = (r.left ≡ N) × Contains ps r × (i ≤ level_of lines ps r)

abbrev pub AreAbove : List LevelLine → List Production → List LevelSymbol → List (Option Production) → Type 0
AreAbove lines ps [] [] = Unit {0}
AreAbove lines ps [] (b ∷ bs) = ⊥
AreAbove lines ps (Y ∷ Ys) [] = ⊥
AreAbove lines ps (Y ∷ Ys) (b ∷ bs) = IsAbove lines ps Y b × AreAbove lines ps Ys bs

pub tops_are : (spec : Spec) (Xs : List Symbol) (ts : List InputPiece) (vs : List Value) (bs : List (Option Production)) (n : ℕ)
    → Derives spec Xs ts vs bs n → AreTops spec.productions Xs bs
tops_are spec _ _ _ _ _ nothing = tt
tops_are spec _ _ _ _ _ (literal s text Xs ts vs bs n d) = (refl, tops_are spec Xs ts vs bs n d)
tops_are spec _ _ _ _ _ (lexeme l text Xs ts vs bs n d) = (refl, tops_are spec Xs ts vs bs n d)
tops_are spec _ _ _ _ _ (under r Xs us ts all ws vs below bs m n k c g d f split count) = ((refl, c), tops_are spec Xs ts vs bs n f)

module _ (lines : List LevelLine) (ps : List Production) where
  first_above : (X : Symbol) (b : Option Production) → IsTop ps X b → IsAbove lines ps (lowered 0 X) b
  first_above (Quoted s) b t = t
  first_above (Lexical l) b t = t
  first_above (Nonterminal M) None t = absurd t
  first_above (Nonterminal M) (Some r) t = (t.0, t.1, omega arith)

  all_above : (Xs : List Symbol) (bs : List (Option Production)) → AreTops ps Xs bs → AreAbove lines ps (map (lowered 0) Xs) bs
  all_above [] [] t = tt
  all_above [] (b ∷ bs) t = absurd t
  all_above (X ∷ Xs) [] t = absurd t
  all_above (X ∷ Xs) (b ∷ bs) t = (first_above X b t.0, all_above Xs bs t.1)

-- the productions of one nonterminal
module _ (lines : List LevelLine) (ps : List Production) (N : ℕ) (known : (r : Production) → Contains ps r → (k : ℕ) → infix_line lines r ≡ Some k → IsLine lines ps r.left k) where
  abbrev pub Agrees : Option ℕ → Bool → List Symbol → List (Option Production) → Type 0
  Agrees o prefix Xs bs = IsTrue (is_grouped_by lines o prefix bs) ↔ AreAbove lines ps (spread_right lines ps N o prefix Xs) bs

  plain_agrees : (Xs : List Symbol) (bs : List (Option Production)) → AreTops ps Xs bs → Agrees None false Xs bs
  plain_agrees Xs bs t = (λ _. all_above lines ps Xs bs t, λ _. refl)

  own_last : (r : Production) → Contains ps r → r.left ≡ N → IsTrue (not (is_some (infix_line lines r))) ↔ (height lines ps N ≤ level_of lines ps r)
  own_last r there is =
      subst (λ M. ((j : ℕ) → infix_line lines r ≡ Some j → IsLine lines ps M j) → IsTrue (not (is_some (infix_line lines r))) ↔ (height lines ps N ≤ level_by lines ps M (infix_line lines r))) (sym is)
      (λ h. last_alone lines ps N (infix_line lines r) h) (known r there)

  own_high : (same : Bool) (k : ℕ) → IsLine lines ps N k → (r : Production) → Contains ps r → r.left ≡ N
      → IsTrue (may_stand same k (infix_line lines r)) ↔ (cond same (rank lines ps N k) (suc (rank lines ps N k)) ≤ level_of lines ps r)
  own_high same k line r there is =
      subst (λ M. ((j : ℕ) → infix_line lines r ≡ Some j → IsLine lines ps M j) → IsTrue (may_stand same k (infix_line lines r)) ↔ (cond same (rank lines ps N k) (suc (rank lines ps N k)) ≤ level_by lines ps M (infix_line lines r))) (sym is)
      (λ h. stands_high lines ps N same k line (infix_line lines r) h) (known r there)

  prefix_agrees : (s : Bytes) (a : ℕ) → N ≡ a → (bs : List (Option Production)) → AreTops ps (Quoted s ∷ Nonterminal a ∷ []) bs → Agrees None true (Quoted s ∷ Nonterminal a ∷ []) bs
  prefix_agrees s a is [] t = absurd t
  prefix_agrees s a is (o ∷ []) t = absurd t.1
  prefix_agrees s a is (o ∷ None ∷ bs) t = absurd t.1.0
  prefix_agrees s a is (o ∷ Some r ∷ b ∷ bs) t = absurd t.1.1
  prefix_agrees s a is (o ∷ Some r ∷ []) t =
      let own = own_last r t.1.0.1 (t.1.0.0 ∙ sym is) in
      (λ h. (t.0, ((t.1.0.0, t.1.0.1, own.0 h), tt)), λ up. own.1 up.1.0.2)

  infix_agrees : (s : Bytes) (a b k : ℕ) → N ≡ a → N ≡ b → IsLine lines ps N k → (bs : List (Option Production)) → AreTops ps (Nonterminal a ∷ Quoted s ∷ Nonterminal b ∷ []) bs
      → Agrees (Some k) false (Nonterminal a ∷ Quoted s ∷ Nonterminal b ∷ []) bs
  infix_agrees s a b k is also line [] t = absurd t
  infix_agrees s a b k is also line (None ∷ bs) t = absurd t.0
  infix_agrees s a b k is also line (Some q ∷ []) t = absurd t.1
  infix_agrees s a b k is also line (Some q ∷ o ∷ []) t = absurd t.1.1
  infix_agrees s a b k is also line (Some q ∷ o ∷ None ∷ bs) t = absurd t.1.1.0
  infix_agrees s a b k is also line (Some q ∷ o ∷ Some r ∷ c ∷ bs) t = absurd t.1.1.1
  infix_agrees s a b k is also line (Some q ∷ o ∷ Some r ∷ []) t =
      let first = own_high (groups_left lines k) k line q t.0.1 (t.0.0 ∙ sym is) in
      let last = own_high (groups_right lines k) k line r t.1.1.0.1 (t.1.1.0.0 ∙ sym also) in
      let x = may_stand (groups_left lines k) k (infix_line lines q) in
      let y = may_stand (groups_right lines k) k (infix_line lines r) in (
        λ h. ((t.0.0, t.0.1, first.0 (and_parts x y h).0), (t.1.0, ((t.1.1.0.0, t.1.1.0.1, last.0 (and_parts x y h).1), tt))),
        λ up. and_from x y (first.1 up.0.2) (last.1 up.1.1.0.2),
      )

  -- a right side is grouped where what stands below is of the levels of the spread right side
  pub agrees : (Xs : List Symbol) → ((k : ℕ) → option_and_then (line_with lines) (literal_between N Xs) ≡ Some k → IsLine lines ps N k) → (bs : List (Option Production)) → AreTops ps Xs bs
      → Agrees (option_and_then (line_with lines) (literal_between N Xs)) (is_before_itself N Xs) Xs bs
  agrees (Nonterminal a ∷ Quoted s ∷ Nonterminal b ∷ []) own bs t = either (nat_eq N a && nat_eq N b) refl
    where
      with_line : N ≡ a → N ≡ b → (o : Option ℕ) → ((k : ℕ) → o ≡ Some k → IsLine lines ps N k) → Agrees o false (Nonterminal a ∷ Quoted s ∷ Nonterminal b ∷ []) bs
      with_line is also None line = plain_agrees (Nonterminal a ∷ Quoted s ∷ Nonterminal b ∷ []) bs t
      with_line is also (Some k) line = infix_agrees s a b k is also (line k refl) bs t

      either : (c : Bool) → (nat_eq N a && nat_eq N b) ≡ c → Agrees (option_and_then (line_with lines) (cond c (Some s) None)) false (Nonterminal a ∷ Quoted s ∷ Nonterminal b ∷ []) bs
      either false e = plain_agrees (Nonterminal a ∷ Quoted s ∷ Nonterminal b ∷ []) bs t
      either true e =
          let both = and_parts (nat_eq N a) (nat_eq N b) e in
          with_line (eqb-true N a both.0) (eqb-true N b both.1) (line_with lines s) (λ k at. own k (ap (λ c. option_and_then (line_with lines) (cond c (Some s) None)) e ∙ at))
  agrees (Quoted s ∷ Nonterminal a ∷ []) own bs t = either (nat_eq N a) refl
    where
      either : (c : Bool) → nat_eq N a ≡ c → Agrees None c (Quoted s ∷ Nonterminal a ∷ []) bs
      either false e = plain_agrees (Quoted s ∷ Nonterminal a ∷ []) bs t
      either true e = prefix_agrees s a (eqb-true N a e) bs t
  agrees Xs own bs t = plain_agrees Xs bs t
