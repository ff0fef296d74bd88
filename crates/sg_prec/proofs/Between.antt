-- What levels derive is what is written.
use Rattle.std.specs.Prelude.{◌≡◌, ℕ, zero, suc, ◌+◌, ◌-◌, ◌<◌, ◌≤◌, ◌↔◌, List, [], ◌∷◌, ◌++◌, map, Option, Some, None, Contains, IsTrue}
use Rattle.std.proofs.Common.{refl, sym, ap, ◌∙◌, subst, arith, inl, inr}
use Rattle.std.proofs.lemmas.List.{append-nil, append_assoc}
use Rattle.sg_kinds.specs.Values.{Value, Chars}
use Rattle.sg_kinds.specs.InputPieces.{InputPiece}
use Rattle.sg_kinds.specs.Outcome.{outcome_of}
use Rattle.sg_kinds.specs.declared.spec.LevelLine.{LevelLine}
use Rattle.sg_kinds.specs.declared.spec.Production.{Production}
use Rattle.sg_kinds.specs.declared.spec.Spec.{Spec}
use Rattle.sg_kinds.specs.declared.spec.Symbol.{Symbol}
use Rattle.sg_kinds.specs.declared.spec.Symbol.TheVariants.{Quoted, Lexical, Nonterminal}
use Rattle.sg_prec.specs.Precedence.{infix_line, is_before_itself, is_grouped}
use Rattle.sg_prec.specs.Levels.{named_over, height, level_of}
use Rattle.sg_prec.specs.Spread.{LevelSymbol, Spread, spread_rule, chain, spread_of}
use Rattle.sg_prec.specs.declared.productions.LevelSymbol.TheVariants as level
use Rattle.sg_prec.specs.WellGrouped.{Derives, nothing, literal, lexeme, under, derives}
use Rattle.sg_prec.specs.LevelDerives as of_levels
use Rattle.sg_prec.specs.LevelDerives.{LevelDerives, made_from, level_derives}
use Rattle.sg_prec.proofs.Ranks.{line_known, level_high}
use Rattle.sg_prec.proofs.Tops.{AreTops, AreAbove, tops_are, agrees}
use Rattle.sg_prec.proofs.Spreads.{plain, plain_right, left_named, rule_in, chain_in, spread_cases}

module _ (spec : Spec) where
  abbrev lines : List LevelLine
  lines = spec.levels

  abbrev ps : List Production
  ps = spec.productions

  -- derivations of two strings, one behind the other
  joined : (Xs : List Symbol) (us : List InputPiece) (ws : List Value) (bs : List (Option Production)) (m : ℕ) → Derives spec Xs us ws bs m
      → (Ys : List Symbol) (ts : List InputPiece) (vs : List Value) (cs : List (Option Production)) (n : ℕ) → Derives spec Ys ts vs cs n
      → (k : ℕ) × Derives spec (Xs ++ Ys) (us ++ ts) (ws ++ vs) (bs ++ cs) k
  joined _ _ _ _ _ nothing Ys ts vs cs n e = (n, e)
  joined _ _ _ _ _ (literal s text Xs us ws bs m d) Ys ts vs cs n e =
      let r = joined Xs us ws bs m d Ys ts vs cs n e in
      (suc r.0, literal s text (Xs ++ Ys) (us ++ ts) (ws ++ vs) (bs ++ cs) r.0 r.1)
  joined _ _ _ _ _ (lexeme l text Xs us ws bs m d) Ys ts vs cs n e =
      let r = joined Xs us ws bs m d Ys ts vs cs n e in
      (suc r.0, lexeme l text (Xs ++ Ys) (us ++ ts) (ws ++ vs) (bs ++ cs) r.0 r.1)
  joined _ _ _ _ _ (under q Xs us os all ws xs below bs m h k c g d f split count) Ys ts vs cs n e =
      let r = joined Xs os xs bs h f Ys ts vs cs n e in
      (suc (m + r.0), under q (Xs ++ Ys) us (os ++ ts) (all ++ ts) ws (xs ++ vs) below (bs ++ cs) m r.0 (m + r.0) c g d r.1 (ap (λ z. z ++ ts) split ∙ append_assoc us os ts) refl)

  levels_joined : (Xs : List LevelSymbol) (us : List InputPiece) (ws : List Value) (m : ℕ) → LevelDerives spec Xs us ws m
      → (Ys : List LevelSymbol) (ts : List InputPiece) (vs : List Value) (n : ℕ) → LevelDerives spec Ys ts vs n
      → (k : ℕ) × LevelDerives spec (Xs ++ Ys) (us ++ ts) (ws ++ vs) k
  levels_joined _ _ _ _ of_levels.nothing Ys ts vs n e = (n, e)
  levels_joined _ _ _ _ (of_levels.literal s text Xs us ws m d) Ys ts vs n e =
      let r = levels_joined Xs us ws m d Ys ts vs n e in
      (suc r.0, of_levels.literal s text (Xs ++ Ys) (us ++ ts) (ws ++ vs) r.0 r.1)
  levels_joined _ _ _ _ (of_levels.lexeme l text Xs us ws m d) Ys ts vs n e =
      let r = levels_joined Xs us ws m d Ys ts vs n e in
      (suc r.0, of_levels.lexeme l text (Xs ++ Ys) (us ++ ts) (ws ++ vs) r.0 r.1)
  levels_joined _ _ _ _ (of_levels.under x Xs us os all ws xs m h k c d f split count) Ys ts vs n e =
      let r = levels_joined Xs os xs h f Ys ts vs n e in (
        suc (m + r.0),
        subst (λ z. LevelDerives spec (level.Level x.left x.level ∷ Xs ++ Ys) (all ++ ts) z (suc (m + r.0))) (sym (append_assoc (made_from spec x.from ws) xs vs))
            (of_levels.under x (Xs ++ Ys) us (os ++ ts) (all ++ ts) ws (xs ++ vs) m r.0 (m + r.0) c d r.1 (ap (λ z. z ++ ts) split ∙ append_assoc us os ts) refl),
      )

  -- a right side and its spread one
  right_agrees : (r : Production) → Contains ps r → (bs : List (Option Production)) → AreTops ps r.right bs → IsTrue (is_grouped lines r bs) ↔ AreAbove lines ps (spread_rule lines ps r).right bs
  right_agrees r there bs tops = agrees lines ps r.left (line_known lines ps) r.right (line_known lines ps r there) bs tops

  level_within : (r : Production) → Contains ps r → level_of lines ps r ≤ height lines ps r.left
  level_within r there = level_high lines ps r.left (infix_line lines r) (line_known lines ps r there)

  right_plain : (r : Production) → map plain (spread_rule lines ps r).right ≡ r.right
  right_plain r = plain_right lines ps r.left (infix_line lines r) (is_before_itself r.left r.right) r.right

  -- from levels to what is written
  abbrev Written : List LevelSymbol → List InputPiece → List Value → Type 0
  Written Ys ts vs = (bs : List (Option Production)) × (n : ℕ) × Derives spec (map plain Ys) ts vs bs n × AreAbove lines ps Ys bs

  of_rule : (r : Production) → Contains ps r → (Xs : List LevelSymbol) (us ts all : List InputPiece) (ws vs : List Value) → Written (spread_rule lines ps r).right us ws → Written Xs ts vs → all ≡ us ++ ts
      → Written (level.Level r.left (level_of lines ps r) ∷ Xs) all (outcome_of spec r.expr ws ∷ vs)
  of_rule r there Xs us ts all ws vs (below, m, d, up) (bs, n, f, high) split =
      let inner = subst (λ z. Derives spec z us ws below m) (right_plain r) d in
      let grouped = (right_agrees r there below (tops_are spec r.right us ws below m inner)).1 up in
      (Some r ∷ bs, suc (m + n), under r (map plain Xs) us ts all ws vs below bs m n (m + n) there grouped inner f split refl, ((refl, there, omega arith), high))

  chain_above : (N i : ℕ) (Xs : List LevelSymbol) (cs bs : List (Option Production)) → AreAbove lines ps (level.Level N (suc i) ∷ []) cs → AreAbove lines ps Xs bs → AreAbove lines ps (level.Level N i ∷ Xs) (cs ++ bs)
  chain_above N i Xs [] bs up high = absurd up
  chain_above N i Xs (None ∷ cs) bs up high = absurd up.0
  chain_above N i Xs (Some r ∷ c ∷ cs) bs up high = absurd up.1
  chain_above N i Xs (Some r ∷ []) bs up high = let low = up.0.2 in ((up.0.0, up.0.1, omega (arith, low)), high)

  of_chain : (N i : ℕ) (Xs : List LevelSymbol) (us ts all : List InputPiece) (ws vs : List Value) → Written (level.Level N (suc i) ∷ []) us ws → Written Xs ts vs → all ≡ us ++ ts → Written (level.Level N i ∷ Xs) all (ws ++ vs)
  of_chain N i Xs us ts all ws vs (cs, m, d, up) (bs, n, f, high) split =
      let j = joined (Nonterminal N ∷ []) us ws cs m d (map plain Xs) ts vs bs n f in
      (cs ++ bs, j.0, subst (λ z. Derives spec (Nonterminal N ∷ map plain Xs) z (ws ++ vs) (cs ++ bs) j.0) (sym split) j.1, chain_above N i Xs cs bs up high)

  of_spread : (x : Spread) → Contains (spread_of lines ps) x → (Xs : List LevelSymbol) (us ts all : List InputPiece) (ws vs : List Value) → Written x.right us ws → Written Xs ts vs → all ≡ us ++ ts
      → Written (level.Level x.left x.level ∷ Xs) all (made_from spec x.from ws ++ vs)
  of_spread x c Xs us ts all ws vs inner outer split = elim (spread_cases lines ps x c) [
    | inl (r, there, is) ↦ subst (λ (z : Spread). Written z.right us ws → Written (level.Level z.left z.level ∷ Xs) all (made_from spec z.from ws ++ vs)) is (λ i. of_rule r there Xs us ts all ws vs i outer split) inner
    | inr (N, i, low, is) ↦ subst (λ (z : Spread). Written z.right us ws → Written (level.Level z.left z.level ∷ Xs) all (made_from spec z.from ws ++ vs)) is (λ h. of_chain N i Xs us ts all ws vs h outer split) inner
  ]

  pub to_written : (Ys : List LevelSymbol) (ts : List InputPiece) (vs : List Value) (n : ℕ) → LevelDerives spec Ys ts vs n
      → (bs : List (Option Production)) × (k : ℕ) × Derives spec (map plain Ys) ts vs bs k × AreAbove lines ps Ys bs
  to_written _ _ _ _ of_levels.nothing = ([], 0, nothing, tt)
  to_written _ _ _ _ (of_levels.literal s text Xs ts vs n d) =
      let r = to_written Xs ts vs n d in
      (None ∷ r.0, suc r.1, literal s text (map plain Xs) ts vs r.0 r.1 r.2, (refl, r.3))
  to_written _ _ _ _ (of_levels.lexeme l text Xs ts vs n d) =
      let r = to_written Xs ts vs n d in
      (None ∷ r.0, suc r.1, lexeme l text (map plain Xs) ts vs r.0 r.1 r.2, (refl, r.3))
  to_written _ _ _ _ (of_levels.under x Xs us ts all ws vs m n k c d f split count) =
      of_spread x c Xs us ts all ws vs (to_written x.right us ws m d) (to_written Xs ts vs n f) split

  -- down to an earlier level
  climb : (N : ℕ) → N < named_over ps → (d i : ℕ) → i + d ≤ height lines ps N → (us : List InputPiece) (ws : List Value) (n : ℕ) → LevelDerives spec (level.Level N (i + d) ∷ []) us ws n
      → (k : ℕ) × LevelDerives spec (level.Level N i ∷ []) us ws k
  climb N named zero i low us ws n e = let same : i + 0 ≡ i = omega arith in (n, subst (λ z. LevelDerives spec (level.Level N z ∷ []) us ws n) same e)
  climb N named (suc d) i low us ws n e =
      let same : i + suc d ≡ suc i + d = omega arith in
      let r = climb N named d (suc i) (omega (arith, low)) us ws n (subst (λ z. LevelDerives spec (level.Level N z ∷ []) us ws n) same e) in (
        suc (r.0 + 0),
        subst (λ z. LevelDerives spec (level.Level N i ∷ []) us z (suc (r.0 + 0))) (append-nil ws)
            (of_levels.under (chain lines ps N i) [] us [] us ws [] r.0 0 (r.0 + 0) (chain_in lines ps N i named (omega (arith, low))) r.1 of_levels.nothing (sym (append-nil us)) refl),
      )

  -- from what is written to levels
  at_level : (r : Production) → Contains ps r → (i : ℕ) → i ≤ level_of lines ps r → (us : List InputPiece) (ws : List Value) (m : ℕ) → LevelDerives spec (spread_rule lines ps r).right us ws m
      → (k : ℕ) × LevelDerives spec (level.Level r.left i ∷ []) us (outcome_of spec r.expr ws ∷ []) k
  at_level r there i low us ws m d =
      let top = of_levels.under (spread_rule lines ps r) [] us [] us ws [] m 0 (m + 0) (rule_in lines ps r there) d of_levels.nothing (sym (append-nil us)) refl in
      let most = level_within r there in
      let same : i + (level_of lines ps r - i) ≡ level_of lines ps r = omega (arith, low) in
      climb r.left (left_named lines ps ps r there) (level_of lines ps r - i) i (omega (arith, low, most)) us (outcome_of spec r.expr ws ∷ []) (suc (m + 0))
      (subst (λ z. LevelDerives spec (level.Level r.left z ∷ []) us (outcome_of spec r.expr ws ∷ []) (suc (m + 0))) (sym same) top)

  pub to_levels : (Xs : List Symbol) (ts : List InputPiece) (vs : List Value) (bs : List (Option Production)) (n : ℕ) → Derives spec Xs ts vs bs n
      → (Ys : List LevelSymbol) → map plain Ys ≡ Xs → AreAbove lines ps Ys bs → (k : ℕ) × LevelDerives spec Ys ts vs k
  to_levels _ _ _ _ _ nothing [] e up = (0, of_levels.nothing)
  to_levels _ _ _ _ _ nothing (Y ∷ Ys) e up = absurd up
  to_levels _ _ _ _ _ (literal s text Xs ts vs bs n d) [] e up = absurd up
  to_levels _ _ _ _ _ (literal s text Xs ts vs bs n d) (level.Quoted z ∷ Ys) e up =
      let whole : Quoted z ∷ map plain Ys ≡ Quoted s ∷ Xs = e in
      let same : s ≡ z = cc in
      let rest : map plain Ys ≡ Xs = cc in
      let r = to_levels Xs ts vs bs n d Ys rest up.1 in
      (suc r.0, subst (λ w. let p : InputPiece = record { terminal = Quoted s; text = text } in LevelDerives spec (level.Quoted w ∷ Ys) (p ∷ ts) vs (suc r.0)) same (of_levels.literal s text Ys ts vs r.0 r.1))
  to_levels _ _ _ _ _ (literal s text Xs ts vs bs n d) (level.Lexical l ∷ Ys) e up = let whole : Lexical l ∷ map plain Ys ≡ Quoted s ∷ Xs = e in absurd (cc whole)
  to_levels _ _ _ _ _ (literal s text Xs ts vs bs n d) (level.Level N i ∷ Ys) e up = absurd up.0
  to_levels _ _ _ _ _ (lexeme l text Xs ts vs bs n d) [] e up = absurd up
  to_levels _ _ _ _ _ (lexeme l text Xs ts vs bs n d) (level.Quoted z ∷ Ys) e up = let whole : Quoted z ∷ map plain Ys ≡ Lexical l ∷ Xs = e in absurd (cc whole)
  to_levels _ _ _ _ _ (lexeme l text Xs ts vs bs n d) (level.Lexical z ∷ Ys) e up =
      let whole : Lexical z ∷ map plain Ys ≡ Lexical l ∷ Xs = e in
      let same : l ≡ z = cc in
      let rest : map plain Ys ≡ Xs = cc in
      let r = to_levels Xs ts vs bs n d Ys rest up.1 in
      (suc r.0, subst (λ w. let p : InputPiece = record { terminal = Lexical l; text = text } in LevelDerives spec (level.Lexical w ∷ Ys) (p ∷ ts) (Chars text ∷ vs) (suc r.0)) same (of_levels.lexeme l text Ys ts vs r.0 r.1))
  to_levels _ _ _ _ _ (lexeme l text Xs ts vs bs n d) (level.Level N i ∷ Ys) e up = absurd up.0
  to_levels _ _ _ _ _ (under q Xs us ts all ws vs below bs m n k c g d f split count) [] e up = absurd up
  to_levels _ _ _ _ _ (under q Xs us ts all ws vs below bs m n k c g d f split count) (level.Quoted z ∷ Ys) e up = let whole : Quoted z ∷ map plain Ys ≡ Nonterminal q.left ∷ Xs = e in absurd (cc)
  to_levels _ _ _ _ _ (under q Xs us ts all ws vs below bs m n k c g d f split count) (level.Lexical l ∷ Ys) e up = let whole : Lexical l ∷ map plain Ys ≡ Nonterminal q.left ∷ Xs = e in absurd (cc)
  to_levels _ _ _ _ _ (under q Xs us ts all ws vs below bs m n k c g d f split count) (level.Level N i ∷ Ys) e up =
      let whole : Nonterminal N ∷ map plain Ys ≡ Nonterminal q.left ∷ Xs = e in
      let rest : map plain Ys ≡ Xs = cc in
      let high = (right_agrees q c below (tops_are spec q.right us ws below m d)).0 g in
      let inner = to_levels q.right us ws below m d (spread_rule lines ps q).right (right_plain q) high in
      let outer = to_levels Xs ts vs bs n f Ys rest up.1 in
      let first = at_level q c i up.0.2 us ws inner.0 inner.1 in
      let both = levels_joined (level.Level q.left i ∷ []) us (outcome_of spec q.expr ws ∷ []) first.0 first.1 Ys ts vs outer.0 outer.1 in
      let whole_text = subst (λ z. LevelDerives spec (level.Level q.left i ∷ Ys) z (outcome_of spec q.expr ws ∷ vs) both.0) (sym split) both.1 in
      (both.0, subst (λ M. LevelDerives spec (level.Level M i ∷ Ys) all (outcome_of spec q.expr ws ∷ vs) both.0) up.0.0 whole_text)

  -- of one nonterminal
  abbrev AtLevel : ℕ → ℕ → List InputPiece → Value → Type 0
  AtLevel N i ts v = (r : Production) × (n : ℕ) × Derives spec (Nonterminal N ∷ []) ts (v ∷ []) (Some r ∷ []) n × (i ≤ level_of lines ps r)

  one_top : (N i : ℕ) (ts : List InputPiece) (v : Value) (bs : List (Option Production)) (n : ℕ) → Derives spec (Nonterminal N ∷ []) ts (v ∷ []) bs n → AreAbove lines ps (level.Level N i ∷ []) bs → AtLevel N i ts v
  one_top N i ts v [] n d up = absurd up
  one_top N i ts v (None ∷ bs) n d up = absurd up.0
  one_top N i ts v (Some r ∷ b ∷ bs) n d up = absurd up.1
  one_top N i ts v (Some r ∷ []) n d up = (r, n, d, up.0.2)

  pub level_to : (N i : ℕ) (ts : List InputPiece) (v : Value) → level_derives spec N i ts v
      → (r : Production) × (n : ℕ) × Derives spec (Nonterminal N ∷ []) ts (v ∷ []) (Some r ∷ []) n × (i ≤ level_of lines ps r)
  level_to N i ts v (n, d) = let w = to_written (level.Level N i ∷ []) ts (v ∷ []) n d in one_top N i ts v w.0 w.1 w.2 w.3

  pub level_from : (N i : ℕ) (ts : List InputPiece) (v : Value) → (r : Production) (n : ℕ) → Derives spec (Nonterminal N ∷ []) ts (v ∷ []) (Some r ∷ []) n → i ≤ level_of lines ps r → level_derives spec N i ts v
  level_from N i ts v r n d high =
      let tops = tops_are spec (Nonterminal N ∷ []) ts (v ∷ []) (Some r ∷ []) n d in
      to_levels (Nonterminal N ∷ []) ts (v ∷ []) (Some r ∷ []) n d (level.Level N i ∷ []) refl ((tops.0.0, tops.0.1, high), tt)

  first_top : (N : ℕ) (ts : List InputPiece) (v : Value) (bs : List (Option Production)) (n : ℕ) → Derives spec (Nonterminal N ∷ []) ts (v ∷ []) bs n → AreTops ps (Nonterminal N ∷ []) bs → level_derives spec N 0 ts v
  first_top N ts v [] n d t = absurd t
  first_top N ts v (None ∷ bs) n d t = absurd t.0
  first_top N ts v (Some r ∷ b ∷ bs) n d t = absurd t.1
  first_top N ts v (Some r ∷ []) n d t = level_from N 0 ts v r n d (omega arith)

  pub first_from : (N : ℕ) (ts : List InputPiece) (v : Value) → derives spec N ts v → level_derives spec N 0 ts v
  first_from N ts v (bs, n, d) = first_top N ts v bs n d (tops_are spec (Nonterminal N ∷ []) ts (v ∷ []) bs n d)

  pub first_to : (N : ℕ) (ts : List InputPiece) (v : Value) → level_derives spec N 0 ts v → derives spec N ts v
  first_to N ts v d = let a = level_to N 0 ts v d in (Some a.0 ∷ [], a.1, a.2)
