-- What marks say of a match, and that a step over a byte keeps it.
use Rattle.std.proofs.Common.{◌≡◌, ℕ, suc, ◌<◌, ◌≤◌, ◌⊎◌, Bool, true, refl, sym, ◌∙◌, subst, arith, inl, inr, Some}
use Rattle.std.proofs.Math.Nat.{eq-or-lt_of_le}
use Rattle.std.specs.Prelude.{slice_get, ◌&&◌, ◌||◌}
use Rattle.sg_kinds.specs.Values.{Bytes}
use Rattle.sg_kinds.specs.Matches.{Rounds, none, more, MatchesFrom}
use Rattle.sg_patterns.specs.declared.program.Leaf.{Leaf}
use Rattle.sg_patterns.specs.declared.program.Leaf.TheVariants.{Byte, Dot, Class}
use Rattle.sg_patterns.specs.Leaves.{passes, leaf_pattern}
use Rattle.sg_patterns.specs.Trees.{Tree, Nothing, OneByte, Then, Either, Many, Several, Maybe, root_of, pattern_of, empty_of, HasFinals, Steps}
use Rattle.sg_patterns.specs.Spent.{Rest}
use Rattle.sg_patterns.proofs.Matching.{matches-go, rounds-go, empty-matches, matches-empty, and-true, and-both, or-left, or-right, or-one}

module _ (text : Bytes) where
  steps-go : (t : Tree) (i j : ℕ) → Rounds (MatchesFrom (pattern_of t) text) i j → i ≤ j
  steps-go t i j r = rounds-go (MatchesFrom (pattern_of t) text) (matches-go (pattern_of t) text) i j r

  pub rest-goes : (f : ℕ → Bool) (t : Tree) (j e : ℕ) → Rest text f t j e → j ≤ e
  rest-goes f (Nothing k) j e r = absurd r
  rest-goes f (OneByte k l) j e r = omega (arith, r.1)
  rest-goes f (Then k t u) j e (inl r) = omega (arith, rest-goes f t j r.0 r.1, matches-go (pattern_of u) text r.0 e r.2)
  rest-goes f (Then k t u) j e (inr r) = rest-goes f u j e r
  rest-goes f (Either k t u) j e (inl r) = rest-goes f t j e r
  rest-goes f (Either k t u) j e (inr r) = rest-goes f u j e r
  rest-goes f (Many k t) j e r = omega (arith, rest-goes f t j r.0 r.1, steps-go t r.0 e r.2)
  rest-goes f (Several k t) j e r = omega (arith, rest-goes f t j r.0 r.1, steps-go t r.0 e r.2)
  rest-goes f (Maybe k t) j e r = rest-goes f t j e r

  -- a root that is final has a match that ends here
  pub final-rest : (f : ℕ → Bool) (t : Tree) (j : ℕ) → HasFinals f t → f (root_of t) ≡ true → Rest text f t j j
  final-rest f (Nothing k) j h e = absurd (cc)
  final-rest f (OneByte k l) j h e = (e, refl)
  final-rest f (Then k t u) j h e =
      elim (or-one (f (root_of t) && empty_of (pattern_of u)) (f (root_of u)) (sym h.0 ∙ e)) [
        | inl a ↦ let both = and-both (f (root_of t)) (empty_of (pattern_of u)) a in
            inl (j, final-rest f t j h.1 both.0, empty-matches (pattern_of u) text j both.1)
        | inr a ↦ inr (final-rest f u j h.2 a)
      ]
  final-rest f (Either k t u) j h e =
      elim (or-one (f (root_of t)) (f (root_of u)) (sym h.0 ∙ e)) [
        | inl a ↦ inl (final-rest f t j h.1 a)
        | inr a ↦ inr (final-rest f u j h.2 a)
      ]
  final-rest f (Many k t) j h e = (j, final-rest f t j h.1 (sym h.0 ∙ e), none j)
  final-rest f (Several k t) j h e = (j, final-rest f t j h.1 (sym h.0 ∙ e), none j)
  final-rest f (Maybe k t) j h e = final-rest f t j h.1 (sym h.0 ∙ e)

  -- and no other has
  pub rest-final : (f : ℕ → Bool) (t : Tree) (j : ℕ) → HasFinals f t → Rest text f t j j → f (root_of t) ≡ true
  rest-final f (Nothing k) j h r = absurd r
  rest-final f (OneByte k l) j h r = r.0
  rest-final f (Then k t u) j h (inl r) =
      let same : r.0 ≡ j = omega (arith, rest-goes f t j r.0 r.1, matches-go (pattern_of u) text r.0 j r.2) in
      let first = rest-final f t j h.1 (subst (λ x. Rest text f t j x) same r.1) in
      let second = matches-empty (pattern_of u) text j (subst (λ x. MatchesFrom (pattern_of u) text x j) same r.2) in
      h.0 ∙ or-left (f (root_of t) && empty_of (pattern_of u)) (f (root_of u)) (and-true (f (root_of t)) (empty_of (pattern_of u)) first second)
  rest-final f (Then k t u) j h (inr r) = h.0 ∙ or-right (f (root_of t) && empty_of (pattern_of u)) (f (root_of u)) (rest-final f u j h.2 r)
  rest-final f (Either k t u) j h (inl r) = h.0 ∙ or-left (f (root_of t)) (f (root_of u)) (rest-final f t j h.1 r)
  rest-final f (Either k t u) j h (inr r) = h.0 ∙ or-right (f (root_of t)) (f (root_of u)) (rest-final f u j h.2 r)
  rest-final f (Many k t) j h r =
      let same : r.0 ≡ j = omega (arith, rest-goes f t j r.0 r.1, steps-go t r.0 j r.2) in
      h.0 ∙ rest-final f t j h.1 (subst (λ x. Rest text f t j x) same r.1)
  rest-final f (Several k t) j h r =
      let same : r.0 ≡ j = omega (arith, rest-goes f t j r.0 r.1, steps-go t r.0 j r.2) in
      h.0 ∙ rest-final f t j h.1 (subst (λ x. Rest text f t j x) same r.1)
  rest-final f (Maybe k t) j h r = h.0 ∙ rest-final f t j h.1 r

  -- rounds that go on have one that does
  round-on : (Step : ℕ → ℕ → Type 0) → ((i j : ℕ) → Step i j → i ≤ j) → (i j : ℕ) → Rounds Step i j → i < j → (m : ℕ) × (i < m) × Step i m × Rounds Step m j
  round-on Step go i j (none k) less = absurd (omega arith)
  round-on Step go i j (more k m l s r) less =
      elim (eq-or-lt_of_le (go k m s)) [
        | inl h ↦ let on = round-on Step go m l r (omega arith) in
            (on.0, omega (arith, on.1), subst (λ x. Step x on.0) (sym h) on.2, on.3)
        | inr h ↦ (m, h, s, r)
      ]

  -- a leaf matches the byte at a place, and ends behind it
  leaf-passes : (l : Leaf) (j e b : ℕ) → slice_get text j ≡ Some b → passes l b ≡ true → e ≡ suc j → MatchesFrom (leaf_pattern l) text j e
  leaf-passes (Byte c) j e b at p is = (is, rw at p)
  leaf-passes Dot j e b at p is = (is, rw at p)
  leaf-passes (Class negated ranges) j e b at p is = (is, rw at p)

  passes-leaf : (l : Leaf) (j e b : ℕ) → slice_get text j ≡ Some b → MatchesFrom (leaf_pattern l) text j e → (e ≡ suc j) × (passes l b ≡ true)
  passes-leaf (Byte c) j e b at m = (m.0, rw at at m.1)
  passes-leaf Dot j e b at m = (m.0, rw at at m.1)
  passes-leaf (Class negated ranges) j e b at m = (m.0, rw at at m.1)

  -- the byte b stands at place j; f are the finals before it, g says where parts may begin, h are the finals after it
  module _ (f g h : ℕ → Bool) (j b : ℕ) (at : slice_get text j ≡ Some b) where
    -- what can be matched over the byte: from a mark, or from here where a match may begin
    abbrev Before : Tree → ℕ → Type 0
    Before t e = Rest text f t j e ⊎ ((g (root_of t) ≡ true) × MatchesFrom (pattern_of t) text j e)

    then-begins : (t u : Tree) (k e : ℕ) → HasFinals f t → g (root_of u) ≡ ((g k && empty_of (pattern_of t)) || f (root_of t)) → Before u e → Before (Then k t u) e
    then-begins t u k e fin is (inl r) = inl (inr r)
    then-begins t u k e fin is (inr m) =
        elim (or-one (g k && empty_of (pattern_of t)) (f (root_of t)) (sym is ∙ m.0)) [
          | inl a ↦ let both = and-both (g k) (empty_of (pattern_of t)) a in
              inr (both.0, (j, empty-matches (pattern_of t) text j both.1, m.1))
          | inr a ↦ inl (inl (j, final-rest f t j fin a, m.1))
        ]

    then-first : (t u : Tree) (k x e : ℕ) → g (root_of t) ≡ g k → Before t x → MatchesFrom (pattern_of u) text x e → Before (Then k t u) e
    then-first t u k x e is (inl r) m = inl (inl (x, r, m))
    then-first t u k x e is (inr n) m = inr (sym is ∙ n.0, (x, n.1, m))

    -- a round that began before or here, and those after it
    round-before : (t : Tree) (k x e : ℕ) → HasFinals f t → g (root_of t) ≡ (g k || f (root_of t)) → Before t x → Rounds (MatchesFrom (pattern_of t) text) x e
        → ((y : ℕ) × Rest text f t j y × Rounds (MatchesFrom (pattern_of t) text) y e) ⊎ ((g k ≡ true) × MatchesFrom (pattern_of t) text j x)
    round-before t k x e fin is (inl r) m = inl (x, r, m)
    round-before t k x e fin is (inr n) m =
        elim (or-one (g k) (f (root_of t)) (sym is ∙ n.0)) [
          | inl a ↦ inr (a, n.1)
          | inr a ↦ inl (j, final-rest f t j fin a, more j x e n.1 m)
        ]

    -- what the marks say after the byte, the marks before it say
    pub shifted-rest : (t : Tree) (e : ℕ) → HasFinals f t → Steps f g h b t → Rest text h t (suc j) e → (j < e) × Before t e
    shifted-rest (Nothing k) e fin st r = absurd r
    shifted-rest (OneByte k l) e fin st r =
        let both = and-both (g k) (passes l b) (sym st ∙ r.0) in
        (omega (arith, r.1), inr (both.0, leaf-passes l j e b at both.1 r.1))
    shifted-rest (Then k t u) e fin st (inl r) =
        let first = shifted-rest t r.0 fin.1 st.2 r.1 in
        (omega (arith, first.0, matches-go (pattern_of u) text r.0 e r.2), then-first t u k r.0 e st.0 first.1 r.2)
    shifted-rest (Then k t u) e fin st (inr r) =
        let second = shifted-rest u e fin.2 st.3 r in (second.0, then-begins t u k e fin.1 st.1 second.1)
    shifted-rest (Either k t u) e fin st (inl r) =
        let first = shifted-rest t e fin.1 st.2 r in
        (first.0, elim first.1 [ inl x ↦ inl (inl x) | inr x ↦ inr (sym st.0 ∙ x.0, inl x.1) ])
    shifted-rest (Either k t u) e fin st (inr r) =
        let second = shifted-rest u e fin.2 st.3 r in
        (second.0, elim second.1 [ inl x ↦ inl (inr x) | inr x ↦ inr (sym st.1 ∙ x.0, inr x.1) ])
    shifted-rest (Many k t) e fin st r =
        let first = shifted-rest t r.0 fin.1 st.1 r.1 in
        (omega (arith, first.0, steps-go t r.0 e r.2), elim (round-before t k r.0 e fin.1 st.0 first.1 r.2) [ inl x ↦ inl x | inr x ↦ inr (x.0, more j r.0 e x.1 r.2) ])
    shifted-rest (Several k t) e fin st r =
        let first = shifted-rest t r.0 fin.1 st.1 r.1 in
        (omega (arith, first.0, steps-go t r.0 e r.2), elim (round-before t k r.0 e fin.1 st.0 first.1 r.2) [ inl x ↦ inl x | inr x ↦ inr (x.0, (r.0, x.1, r.2)) ])
    shifted-rest (Maybe k t) e fin st r =
        let first = shifted-rest t e fin.1 st.1 r in
        (first.0, elim first.1 [ inl x ↦ inl x | inr x ↦ inr (sym st.0 ∙ x.0, inr x.1) ])

    -- rounds of which the next begins here
    rounds-here : (t : Tree) (e : ℕ) → ((x : ℕ) → j < x → Before t x → Rest text h t (suc j) x) → j < e → g (root_of t) ≡ true → Rounds (MatchesFrom (pattern_of t) text) j e → (x : ℕ) × Rest text h t (suc j) x × Rounds (MatchesFrom (pattern_of t) text) x e
    rounds-here t e step less begins r =
        let on = round-on (MatchesFrom (pattern_of t) text) (matches-go (pattern_of t) text) j e r less in
        (on.0, step on.0 on.1 (inr (begins, on.2)), on.3)

    -- rounds after a mark, which ends here or later
    rounds-after : (t : Tree) (x e : ℕ) → HasFinals f t → ((x : ℕ) → j < x → Before t x → Rest text h t (suc j) x) → j < e → (f (root_of t) ≡ true → g (root_of t) ≡ true) → Rest text f t j x → Rounds (MatchesFrom (pattern_of t) text) x e → (x : ℕ) × Rest text h t (suc j) x × Rounds (MatchesFrom (pattern_of t) text) x e
    rounds-after t x e fin step less begins r m =
        elim (eq-or-lt_of_le (rest-goes f t j x r)) [
          | inl same ↦ rounds-here t e step less (begins (rest-final f t j fin (subst (λ y. Rest text f t j y) (sym same) r))) (subst (λ y. Rounds (MatchesFrom (pattern_of t) text) y e) (sym same) m)
          | inr later ↦ (x, step x later (inl r), m)
        ]

    -- what the marks say before the byte and goes over it, the marks after it say
    pub rest-shifted : (t : Tree) (e : ℕ) → HasFinals f t → Steps f g h b t → j < e → Before t e → Rest text h t (suc j) e
    rest-shifted (Nothing k) e fin st less (inl r) = absurd r
    rest-shifted (Nothing k) e fin st less (inr m) = absurd (omega (arith, m.1))
    rest-shifted (OneByte k l) e fin st less (inl r) = absurd (omega (arith, r.1))
    rest-shifted (OneByte k l) e fin st less (inr m) =
        let here = passes-leaf l j e b at m.1 in (st ∙ and-true (g k) (passes l b) m.0 here.1, here.0)
    rest-shifted (Then k t u) e fin st less (inl (inl r)) =
        elim (eq-or-lt_of_le (rest-goes f t j r.0 r.1)) [
          | inl same ↦ inr (rest-shifted u e fin.2 st.3 less (inr (st.1 ∙ or-right (g k && empty_of (pattern_of t)) (f (root_of t)) (rest-final f t j fin.1 (subst (λ y. Rest text f t j y) (sym same) r.1)), subst (λ y. MatchesFrom (pattern_of u) text y e) (sym same) r.2)))
          | inr later ↦ inl (r.0, rest-shifted t r.0 fin.1 st.2 later (inl r.1), r.2)
        ]
    rest-shifted (Then k t u) e fin st less (inl (inr r)) = inr (rest-shifted u e fin.2 st.3 less (inl r))
    rest-shifted (Then k t u) e fin st less (inr m) =
        elim (eq-or-lt_of_le (matches-go (pattern_of t) text j m.1.0 m.1.1)) [
          | inl same ↦ inr (rest-shifted u e fin.2 st.3 less (inr (st.1 ∙ or-left (g k && empty_of (pattern_of t)) (f (root_of t)) (and-true (g k) (empty_of (pattern_of t)) m.0 (matches-empty (pattern_of t) text j (subst (λ y. MatchesFrom (pattern_of t) text j y) (sym same) m.1.1))), subst (λ y. MatchesFrom (pattern_of u) text y e) (sym same) m.1.2)))
          | inr later ↦ inl (m.1.0, rest-shifted t m.1.0 fin.1 st.2 later (inr (st.0 ∙ m.0, m.1.1)), m.1.2)
        ]
    rest-shifted (Either k t u) e fin st less (inl (inl r)) = inl (rest-shifted t e fin.1 st.2 less (inl r))
    rest-shifted (Either k t u) e fin st less (inl (inr r)) = inr (rest-shifted u e fin.2 st.3 less (inl r))
    rest-shifted (Either k t u) e fin st less (inr m) =
        elim m.1 [
          | inl n ↦ inl (rest-shifted t e fin.1 st.2 less (inr (st.0 ∙ m.0, n)))
          | inr n ↦ inr (rest-shifted u e fin.2 st.3 less (inr (st.1 ∙ m.0, n)))
        ]
    rest-shifted (Many k t) e fin st less (inl r) =
        rounds-after t r.0 e fin.1 (λ x later before. rest-shifted t x fin.1 st.1 later before) less (λ final. st.0 ∙ or-right (g k) (f (root_of t)) final) r.1 r.2
    rest-shifted (Many k t) e fin st less (inr m) =
        rounds-here t e (λ x later before. rest-shifted t x fin.1 st.1 later before) less (st.0 ∙ or-left (g k) (f (root_of t)) m.0) m.1
    rest-shifted (Several k t) e fin st less (inl r) =
        rounds-after t r.0 e fin.1 (λ x later before. rest-shifted t x fin.1 st.1 later before) less (λ final. st.0 ∙ or-right (g k) (f (root_of t)) final) r.1 r.2
    rest-shifted (Several k t) e fin st less (inr m) =
        rounds-here t e (λ x later before. rest-shifted t x fin.1 st.1 later before) less (st.0 ∙ or-left (g k) (f (root_of t)) m.0) (more j m.1.0 e m.1.1 m.1.2)
    rest-shifted (Maybe k t) e fin st less (inl r) = rest-shifted t e fin.1 st.1 less (inl r)
    rest-shifted (Maybe k t) e fin st less (inr m) =
        elim m.1 [ inl n ↦ absurd (omega arith) | inr n ↦ rest-shifted t e fin.1 st.1 less (inr (st.0 ∙ m.0, n)) ]
