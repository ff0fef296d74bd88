-- A state does one thing on a terminal, and one state is behind a symbol.
use Rattle.std.proofs.Common.{◌≡◌, ◌≢◌, ℕ, ◌<◌, ◌⊎◌, inl, inr, length, refl, sym, ap, arith}
use Rattle.std.proofs.lemmas.Bool.{cases_eq, cases_order}
use Rattle.sg_lalr.specs.declared.conflict.Deed.{Deed}
use Rattle.sg_lalr.specs.declared.conflict.Deed.TheVariants.{Shifts, Reduces}
use Rattle.sg_lalr.specs.declared.table.Action.{Action}
use Rattle.sg_lalr.specs.declared.table.Action.TheVariants.{Shift, Reduce, Accept, Stop}
use Rattle.sg_lalr.specs.Automaton.{row_at}
use Rattle.sg_lalr.specs.Tables.{View, IsTables, Leads, ActsIn, IsAction}
use Rattle.sg_lalr.proofs.RisingLemmas.{rising-same}

same_reduced : (p q : ℕ) → Reduces p ≡ Reduces q → p ≡ q
same_reduced p q e = cc

apart : (p : ℕ) → Shifts ≡ Reduces p → ⊥
apart p e = cc

deed_cases : (a b : Deed) → (a ≡ b) ⊎ (a ≢ b)
deed_cases Shifts Shifts = inl refl
deed_cases Shifts (Reduces p) = inr (apart p)
deed_cases (Reduces p) Shifts = inr (λ e. apart p (sym e))
deed_cases (Reduces p) (Reduces q) = elim (cases_eq p q) [ inl e ↦ inl (ap Reduces e) | inr n ↦ inr (λ e. n (same_reduced p q e)) ]

module _ (v : View) (tables : IsTables v) (s t : ℕ) (low : s < length v.cores) where
  pub one_deed : t < v.grammar.terminals → (a b : Deed) → ActsIn v s t a → ActsIn v s t b → a ≡ b
  one_deed terminal a b x y =
      let r = tables.realized s low in
      elim (deed_cases a b) [
        | inl e ↦ e
        | inr n ↦ absurd (tables.quiet r.0 t (record { terminal = terminal; one = x.0; other = y.0; does = a; differs = b; acts = x.1 r.0 r.2; acts_too = y.1 r.0 r.2; different = n }))
      ]

  pub one_behind : (u w : ℕ) → Leads v s t u → Leads v s t w → u ≡ w
  one_behind u w l k =
      let r = tables.realized s low in
      let c = l.1 r.0 r.2 in
      let d = k.1 r.0 r.2 in
      let same = rising-same (row_at v.cores u) (row_at v.cores w) c.0 d.0 (λ i. (
        λ h. (d.1 i.production i.dot).1 ((c.1 i.production i.dot).0 h),
        λ h. (c.1 i.production i.dot).1 ((d.1 i.production i.dot).0 h),
      )) in
      elim (cases_order u w) [
        | inl e ↦ e
        | inr apart ↦ elim apart [ inl less ↦ absurd (tables.distinct u w less k.0 same) | inr more ↦ absurd (tables.distinct w u more l.0 (sym same)) ]
      ]

  never : (a : Deed) → ActsIn v s t a → IsAction v s t Stop → ⊥
  never a x stop = let r = tables.realized s low in stop r.0 x.0 a r.2 (x.1 r.0 r.2)

  -- the answers exclude each other, so each comes exactly where its meaning holds
  pub one_action : t < v.grammar.terminals → (a b : Action) → IsAction v s t a → IsAction v s t b → a ≡ b
  one_action terminal (Shift u) (Shift w) x y = ap Shift (one_behind u w x.1 y.1)
  one_action terminal (Shift u) (Reduce q) x y = absurd (apart q (one_deed terminal Shifts (Reduces q) x.0 y.1))
  one_action terminal (Shift u) Accept x y = absurd (apart y.0 (one_deed terminal Shifts (Reduces y.0) x.0 y.2))
  one_action terminal (Shift u) Stop x y = absurd (never Shifts x.0 y)
  one_action terminal (Reduce p) (Shift w) x y = absurd (apart p (one_deed terminal Shifts (Reduces p) y.0 x.1))
  one_action terminal (Reduce p) (Reduce q) x y = ap Reduce (same_reduced p q (one_deed terminal (Reduces p) (Reduces q) x.1 y.1))
  one_action terminal (Reduce p) Accept x y = absurd (let e = same_reduced p y.0 (one_deed terminal (Reduces p) (Reduces y.0) x.1 y.2) in let l = x.0 in let h = y.1 in omega (arith, e, l, h))
  one_action terminal (Reduce p) Stop x y = absurd (never (Reduces p) x.1 y)
  one_action terminal Accept (Shift w) x y = absurd (apart x.0 (one_deed terminal Shifts (Reduces x.0) y.0 x.2))
  one_action terminal Accept (Reduce q) x y = absurd (let e = same_reduced x.0 q (one_deed terminal (Reduces x.0) (Reduces q) x.2 y.1) in let l = y.0 in let h = x.1 in omega (arith, e, l, h))
  one_action terminal Accept Accept x y = refl
  one_action terminal Accept Stop x y = absurd (never (Reduces x.0) x.2 y)
  one_action terminal Stop (Shift w) x y = absurd (never Shifts y.0 x)
  one_action terminal Stop (Reduce q) x y = absurd (never (Reduces q) y.1 x)
  one_action terminal Stop Accept x y = absurd (never (Reduces y.0) y.2 x)
  one_action terminal Stop Stop x y = refl
