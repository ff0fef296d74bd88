-- The machine does one thing at a time.
use Rattle.std.proofs.Common.{◌≡◌, ℕ, zero, ◌+◌, ◌-◌, ◌≤◌, ◌⊎◌, inl, inr, List, ◌∷◌, length, refl, sym, ap, ◌∙◌, subst, arith}
use Rattle.std.specs.Prelude.{slice_get}
use Rattle.std.proofs.lemmas.Bool.{cases_lt}
use Rattle.std.proofs.lemmas.Option.{same_Some}
use Rattle.sg_grammar.specs.Derives.{Token, Algebra}
use Rattle.sg_lalr.specs.declared.table.Action.{Action}
use Rattle.sg_lalr.specs.declared.table.Action.TheVariants.{Shift, Reduce, Accept, Stop}
use Rattle.sg_lalr.specs.Tables.{View, Decided}
use Rattle.sg_machine.specs.Machine.{look, top, results_in, Run, stay, shift, reduce}
use Rattle.sg_machine.proofs.Lists.{same-pushed}

pub same-shift : (u w : ℕ) → Shift u ≡ Shift w → u ≡ w
same-shift u w e = cc

pub same-reduce : (p q : ℕ) → Reduce p ≡ Reduce q → p ≡ q
same-reduce p q e = cc

pub shift-reduce : (u p : ℕ) → Shift u ≡ Reduce p → ⊥
shift-reduce u p e = cc

-- where the machine goes no further
abbrev pub IsOver : Action → Type 0
IsOver a = (a ≡ Accept) ⊎ (a ≡ Stop)

pub over-shift : (a : Action) (u : ℕ) → IsOver a → a ≡ Shift u → ⊥
over-shift a u (inl h) e = cc
over-shift a u (inr h) e = cc

pub over-reduce : (a : Action) (p : ℕ) → IsOver a → a ≡ Reduce p → ⊥
over-reduce a p (inl h) e = cc
over-reduce a p (inr h) e = cc

module _ {A : Type 0} (v : View) (alg : Algebra A) (m : Decided v) where
  pub joined : (i j : ℕ) (a b c : List (ℕ × A)) (ta tb tc : List Token) → Run alg m i a ta b tb → Run alg m j b tb c tc → Run alg m (i + j) a ta c tc
  joined _ j _ _ c _ _ tc (stay s ts) q = subst (λ k. Run alg m k s ts c tc) (omega arith) q
  joined _ j _ b c _ tb tc (shift n u x s z ts us a r) q = subst (λ k. Run alg m k s (x ∷ ts) c tc) (omega arith) (shift (n + j) u x s c ts tc a (joined n j ((u, alg.leaf x) ∷ s) b c ts tb tc r q))
  joined _ j _ b c _ tb tc (reduce n p r cells base s z ts us a e i l k) q =
      subst (λ h. Run alg m h s ts c tc) (omega arith)
      (reduce (n + j) p r cells base s c ts tc a e i l (joined n j ((m.go (top base) r.left, alg.node p (results_in cells)) ∷ base) b c ts tb tc k q))

  -- what is left of the longer of two runs, once the shorter is over
  pub split : (a b n : ℕ) (s y z : List (ℕ × A)) (ts ys us : List Token) → Run alg m a s ts y ys → Run alg m n s ts z us → n ≡ a + b → Run alg m b y ys z us
  split _ b n _ _ z _ _ us (stay s ts) r e = subst (λ k. Run alg m k s ts z us) (omega (arith, e)) r
  split _ b _ _ y _ _ ys _ (shift a u x s _ ts _ q r) (stay _ _) e = absurd (omega (arith, e))
  split _ b _ _ y z _ ys us (shift a u x s _ ts _ q r) (shift n w _ _ _ _ _ q' r') e =
      split a b n ((u, alg.leaf x) ∷ s) y z ts ys us r (subst (λ k. Run alg m n ((k, alg.leaf x) ∷ s) ts z us) (same-shift w u (sym q' ∙ q)) r') (omega (arith, e))
  split _ b _ _ y z _ ys us (shift a u x s _ ts _ q r) (reduce n p pr cells base _ _ _ _ q' g l c r') e = absurd (shift-reduce u p (sym q ∙ q'))
  split _ b _ _ y _ _ ys _ (reduce a p pr cells base s _ ts _ q g l c r) (stay _ _) e = absurd (omega (arith, e))
  split _ b _ _ y z _ ys us (reduce a p pr cells base s _ _ _ q g l c r) (shift n w x _ _ ts _ q' r') e = absurd (shift-reduce w p (sym q' ∙ q))
  split _ b _ _ y z _ ys us (reduce a p pr cells base s _ ts _ q g l c r) (reduce n p' pr' cells' base' _ _ _ _ q' g' l' c' r') e =
      let i : p' ≡ p = same-reduce p' p (sym q' ∙ q) in
      let k : pr' ≡ pr = same_Some pr' pr (sym g' ∙ (ap (slice_get v.grammar.rules) i ∙ g)) in
      let lengths : length cells' ≡ length cells = c' ∙ (ap (λ h. length h.right) k ∙ sym c) in
      let f = same-pushed cells' cells base' base (sym l' ∙ l) lengths in
      let r1 = subst (λ h. Run alg m n ((m.go (top base') pr'.left, alg.node h (results_in cells')) ∷ base') ts z us) i r' in
      let r2 = subst (λ h. Run alg m n ((m.go (top base') h.left, alg.node p (results_in cells')) ∷ base') ts z us) k r1 in
      let r3 = subst (λ h. Run alg m n ((m.go (top base') pr.left, alg.node p (results_in h)) ∷ base') ts z us) f.0 r2 in
      let r4 = subst (λ h. Run alg m n ((m.go (top h) pr.left, alg.node p (results_in cells)) ∷ h) ts z us) f.1 r3 in
      split a b n ((m.go (top base) pr.left, alg.node p (results_in cells)) ∷ base) y z ts ys us r r4 (omega (arith, e))

  -- a run from where it is over has no step
  pub over-at-once : (n : ℕ) (s z : List (ℕ × A)) (ts us : List Token) → IsOver (m.act (top s) (look ts)) → Run alg m n s ts z us → (n ≡ zero) × (s ≡ z) × (ts ≡ us)
  over-at-once _ _ _ _ _ o (stay s ts) = (refl, refl, refl)
  over-at-once _ _ z _ us o (shift n u x s _ ts _ q r) = absurd (over-shift (m.act (top s) x.terminal) u o q)
  over-at-once _ _ z ts us o (reduce n p pr cells base s _ _ _ q g l c r) = absurd (over-reduce (m.act (top s) (look ts)) p o q)

  one-end-below : (a b : ℕ) (s y z : List (ℕ × A)) (ts ys zs : List Token) → a ≤ b → Run alg m a s ts y ys → IsOver (m.act (top y) (look ys)) → Run alg m b s ts z zs → (a ≡ b) × (y ≡ z) × (ys ≡ zs)
  one-end-below a b s y z ts ys zs l r o q =
      let rest = split a (b - a) b s y z ts ys zs r q (omega (arith, l)) in
      let e = over-at-once (b - a) y z ys zs o rest in
      let k : b - a ≡ zero = e.0 in
      (omega (arith, l, k), e.1, e.2)

  -- two runs that are over have one end
  pub one-end : (a b : ℕ) (s y z : List (ℕ × A)) (ts ys zs : List Token) → Run alg m a s ts y ys → IsOver (m.act (top y) (look ys)) → Run alg m b s ts z zs → IsOver (m.act (top z) (look zs)) → (a ≡ b) × (y ≡ z) × (ys ≡ zs)
  one-end a b s y z ts ys zs r o q o' =
      elim (cases_lt b a) [
        | inl l ↦ let e = one-end-below b a s z y ts zs ys (omega (arith, l)) q o' r in (sym e.0, sym e.1, sym e.2)
        | inr l ↦ one-end-below a b s y z ts ys zs l r o q
      ]
