-- Equations have one fault at most.
use Rattle.std.specs.Prelude.{◌≡◌, ◌≢◌, ℕ, List, [], ◌∷◌, length, slice_index, Contains}
use Rattle.std.proofs.Common.{refl, sym, ◌∙◌, ap, subst, arith, inl, inr}
use Rattle.std.proofs.lemmas.Bool.{cases_order}
use Rattle.sg_sets.specs.Cycles.{IsCycle, NotAfter}
use Rattle.sg_sets.proofs.CyclesLemmas.{IsCycle-wider, StartsLeast-narrower, IsShortest-narrower, IsLeast-narrower}
use Rattle.sg_kinds.specs.declared.spec.Rules.{Rules}
use Rattle.sg_kinds.specs.declared.spec.Occurrence.{Occurrence}
use Rattle.sg_kinds.specs.Dependencies as depend
use Rattle.sg_kinds.specs.Dependencies.{InOperator}
use Rattle.sg_kinds.specs.Layers.{Extended}
use Rattle.sg_dependencies.specs.Faults.{AreAcyclic, IsFirst, IsUnordered, IsFault}
use Rattle.sg_dependencies.specs.Reported.{IsReported}
use Rattle.sg_dependencies.specs.Vertices.{AreInRange, Numbered}
use Rattle.sg_dependencies.specs.declared.fault.OrderFault.{OrderFault}
use Rattle.sg_dependencies.specs.declared.fault.OrderFault.TheVariants.{Direct, Induced, Ordered, NoMemory}
use Rattle.sg_dependencies.proofs.Sound.{AreVertices, direct_vertices, operator_vertices}
use Rattle.sg_orders.proofs.Refused.{extended_vertices, no_cycle, same_extended}

-- of two sequences as long as each other that do not come after each other
not_after : (c d : List ℕ) → length c ≡ length d → NotAfter c d → NotAfter d c → c ≡ d
not_after [] [] long x y = refl
not_after [] (b ∷ d) long x y = absurd (omega (arith, long))
not_after (a ∷ c) [] long x y = absurd (omega (arith, long))
not_after (a ∷ c) (b ∷ d) long (inl l) (inl g) = absurd (omega (arith, l, g))
not_after (a ∷ c) (b ∷ d) long (inl l) (inr g) = absurd (let e = g.0 in omega (arith, l, e))
not_after (a ∷ c) (b ∷ d) long (inr l) (inl g) = absurd (let e = l.0 in omega (arith, g, e))
not_after (a ∷ c) (b ∷ d) long (inr l) (inr g) = ap (λ z. z ∷ c) l.0 ∙ ap (λ z. b ∷ z) (not_after c d (omega (arith, long)) l.1 g.1)

module _ (R : ℕ → ℕ → Type 0) where
  first_there : (c : List ℕ) → IsCycle R c → Contains c (slice_index c 0)
  first_there [] cycle = absurd cycle
  first_there (a ∷ via) cycle = (0, omega arith, refl)

  -- a relation has one reported cycle at most
  one_reported : (c d : List ℕ) → IsReported R c → IsReported R d → c ≡ d
  one_reported c d x y =
      let low = x.start d (slice_index d 0) y.cycle (first_there d y.cycle) in
      let high = y.start c (slice_index c 0) x.cycle (first_there c x.cycle) in
      let start : slice_index d 0 ≡ slice_index c 0 = omega (arith, low, high) in
      let short = x.shortest d (y.cycle, start) in
      let long = y.shortest c (x.cycle, sym start) in
      let same : length d ≡ length c = omega (arith, short, long) in
      not_after c d (sym same) (x.least d (y.cycle, start) same) (y.least c (x.cycle, sym start) (sym same))

-- the same for relations that hold of the same numbers
module _ (R S : ℕ → ℕ → Type 0) (wider : (a b : ℕ) → R a b → S a b) (narrower : (a b : ℕ) → S a b → R a b) where
  reported_also : (c : List ℕ) → IsReported S c → IsReported R c
  reported_also c is = record {
    cycle = IsCycle-wider S R narrower c is.cycle;
    start = StartsLeast-narrower R S wider c is.start;
    shortest = IsShortest-narrower R S wider c is.shortest;
    least = IsLeast-narrower R S wider c is.least;
  }

numbered_also : (rules : Rules) (p : ℕ) (R S : Occurrence → Occurrence → Type 0) → ((u v : Occurrence) → R u v → S u v) → (m n : ℕ) → Numbered rules p R m n → Numbered rules p S m n
numbered_also rules p R S wider m n x = record { from = x.from; to = x.to; related = wider x.from x.to x.related; from_number = x.from_number; to_number = x.to_number }

abbrev AreAllVertices : Rules → (ℕ → Occurrence → Occurrence → Type 0) → Type 0
AreAllVertices rules R = (p : ℕ) (u v : Occurrence) → R p u v → AreVertices rules p u v

-- no operator is the first with a cycle where none has one
none_first : (rules : Rules) (R : ℕ → Occurrence → Occurrence → Type 0) → AreAllVertices rules R → AreAcyclic rules R → (p : ℕ) (c : List ℕ) → IsFirst rules R p c → ⊥
none_first rules R there none p c first = no_cycle rules p (R p) (there p) (none p first.there) c first.cycle.cycle

-- relations that hold of the same vertices have one first cycle at most
module _ (rules : Rules) (R S : ℕ → Occurrence → Occurrence → Type 0) (there : AreAllVertices rules R) (there_too : AreAllVertices rules S)
    (wider : (p : ℕ) (u v : Occurrence) → R p u v → S p u v) (narrower : (p : ℕ) (u v : Occurrence) → S p u v → R p u v) where
  same_operator : (p q : ℕ) (c d : List ℕ) → IsFirst rules R p c → IsFirst rules S q d → p ≡ q
  same_operator p q c d x y = elim (cases_order p q) [
    | inl e ↦ e
    | inr apart ↦ elim apart [
      | inl less ↦ absurd (no_cycle rules p (S p) (there_too p) (y.before p less) c (IsCycle-wider (Numbered rules p (R p)) (Numbered rules p (S p)) (numbered_also rules p (R p) (S p) (wider p)) c x.cycle.cycle))
      | inr more ↦ absurd (no_cycle rules q (R q) (there q) (x.before q more) d (IsCycle-wider (Numbered rules q (S q)) (Numbered rules q (R q)) (numbered_also rules q (S q) (R q) (narrower q)) d y.cycle.cycle))
    ]
  ]

  same_cycle : (p : ℕ) (c d : List ℕ) → IsFirst rules R p c → IsFirst rules S p d → c ≡ d
  same_cycle p c d x y =
      one_reported (Numbered rules p (R p)) c d x.cycle
      (reported_also (Numbered rules p (R p)) (Numbered rules p (S p)) (numbered_also rules p (R p) (S p) (wider p)) (numbered_also rules p (S p) (R p) (narrower p)) d y.cycle)

  one_first : (p q : ℕ) (c d : List ℕ) → IsFirst rules R p c → IsFirst rules S q d → (p ≡ q) × (c ≡ d)
  one_first p q c d x y =
      let at = same_operator p q c d x y in
      (at, same_cycle p c d x (subst (λ k. IsFirst rules S k d) (sym at) y))

module _ (rules : Rules) (ranges : AreInRange rules) where
  directs : AreAllVertices rules (depend.Direct rules)
  directs p = direct_vertices rules ranges p

  inducts : AreAllVertices rules (InOperator rules)
  inducts p = operator_vertices rules ranges p

  extends : (layer : ℕ → ℕ → ℕ) → AreAllVertices rules (Extended rules layer)
  extends layer p = extended_vertices rules ranges layer p

  one_unordered : (p q : ℕ) (c d : List ℕ) → IsUnordered rules p c → IsUnordered rules q d → (p ≡ q) × (c ≡ d)
  one_unordered p q c d x y =
      one_first rules (Extended rules x.layer) (Extended rules y.layer) (extends x.layer) (extends y.layer)
      (same_extended rules ranges x.layer y.layer x.layers y.layers) (same_extended rules ranges y.layer x.layer y.layers x.layers) p q c d x.first y.first

  pub one_fault : (e f : OrderFault) → IsFault rules e → IsFault rules f → e ≢ NoMemory → f ≢ NoMemory → e ≡ f
  one_fault (Direct p c) (Direct q d) x y m n =
      let same = one_first rules (depend.Direct rules) (depend.Direct rules) directs directs (λ p u v r. r) (λ p u v r. r) p q c d x y in
      ap (λ z. Direct z c) same.0 ∙ ap (λ z. Direct q z) same.1
  one_fault (Direct p c) (Induced q d) x y m n = absurd (none_first rules (depend.Direct rules) directs y.0 p c x)
  one_fault (Direct p c) (Ordered q d) x y m n = absurd (none_first rules (depend.Direct rules) directs y.0 p c x)
  one_fault (Induced p c) (Direct q d) x y m n = absurd (none_first rules (depend.Direct rules) directs x.0 q d y)
  one_fault (Induced p c) (Induced q d) x y m n =
      let same = one_first rules (InOperator rules) (InOperator rules) inducts inducts (λ p u v r. r) (λ p u v r. r) p q c d x.1 y.1 in
      ap (λ z. Induced z c) same.0 ∙ ap (λ z. Induced q z) same.1
  one_fault (Induced p c) (Ordered q d) x y m n = absurd (none_first rules (InOperator rules) inducts y.1 p c x.1)
  one_fault (Ordered p c) (Direct q d) x y m n = absurd (none_first rules (depend.Direct rules) directs x.0 q d y)
  one_fault (Ordered p c) (Induced q d) x y m n = absurd (none_first rules (InOperator rules) inducts x.1 q d y.1)
  one_fault (Ordered p c) (Ordered q d) x y m n =
      let same = one_unordered p q c d x.2 y.2 in
      ap (λ z. Ordered z c) same.0 ∙ ap (λ z. Ordered q z) same.1
  one_fault NoMemory f x y m n = absurd (m refl)
  one_fault e NoMemory x y m n = absurd (n refl)
