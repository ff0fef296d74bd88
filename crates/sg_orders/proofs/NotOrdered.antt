-- The language of two meeting visits is not ordered, whatever layers are taken.
use Rattle.std.specs.Prelude.{◌≡◌, refl, ℕ, zero, suc, ◌+◌, ◌%◌, ◌<◌, ◌≤◌, true, false, nat_eq, nat_lt, nat_le, [], ◌∷◌, ◌⊎◌, Some, slice_index}
use Rattle.std.proofs.Common.{arith, inl, inr}
use Rattle.sg_kinds.specs.declared.spec.Occurrence.{Occurrence}
use Rattle.sg_kinds.specs.declared.spec.Rule.{Rule}
use Rattle.sg_kinds.specs.Specification.{rules_of}
use Rattle.sg_kinds.specs.Dependencies.{phylum_there, IsAttr, occurrence, Direct, InPhylum}
use Rattle.sg_kinds.specs.Layers.{IsLayering, MayBeTaken, IsOfKind, within, layered}
use Rattle.sg_dependencies.specs.Ordered as order
use Rattle.sg_dependencies.specs.Ordered.{IsOrdered}
use Rattle.sg_kinds.proofs.Each.{Each, each_of}
use Rattle.sg_kinds.proofs.Least.{least_in_phylum}
use Rattle.sg_kinds.proofs.Languages.{meeting, rule, at}

-- two tracks: i then s, of the second x before the first; and j then t, of the first x before the second
abbrev at_slot : ℕ → ℕ → ℕ → ℕ
at_slot s t a = slice_index (s ∷ t ∷ (s + 1) ∷ (t + 1) ∷ []) a

abbrev at_argument : ℕ → ℕ → ℕ
at_argument zero a = 0
at_argument (suc zero) a = at_slot 12 20 a
at_argument (suc (suc k)) a = at_slot 10 22 a

abbrev rank : ℕ → Occurrence → ℕ
rank zero o = at_argument o.at o.slot
rank (suc p) o = at_slot 10 20 o.slot

-- on one track, and rising
abbrev OneTrack : ℕ → ℕ → Type 0
OneTrack x y = ((10 ≤ x) × (y < 20) × (x < y)) ⊎ ((20 ≤ x) × (x < y))

abbrev Rises : ℕ → Occurrence → Occurrence → Type 0
Rises p u v = OneTrack (rank p u) (rank p v)

abbrev Given : ℕ → ℕ → Type 0
Given a b = ((a ≡ 0) × (b ≡ 2)) ⊎ ((a ≡ 1) × (b ≡ 3))

abbrev Joins : ℕ → ℕ → ℕ → Type 0
Joins X a b = (X ≡ 4) × Given a b

holds : (p : ℕ) (u v : Occurrence) → Direct (rules_of meeting) p u v → Rises p u v
unfolding Each
holds p u v d = rw (← d.target) (rw (← d.of_operator) (each_of (λ x. Rises d.rule.op x d.rule.target) d.rule.args (each_of (λ (r : Rule). Each (λ x. Rises r.op x r.target) r.args) meeting.rules every d.stands.0 d.rule d.stands.1 d.stands.2) d.names.0 u d.names.1 d.names.2))
  where
    every : Each (λ (r : Rule). Each (λ x. Rises r.op x r.target) r.args) meeting.rules
    every = ((inl (omega arith, omega arith, omega arith), tt), ((inr (omega arith, omega arith), tt), ((inl (omega arith, omega arith, omega arith), tt), (tt, (tt, ((inr (omega arith, omega arith), tt), tt))))))

chained : (x y z : ℕ) → OneTrack x y → OneTrack y z → OneTrack x z
chained x y z (inl f) (inl g) = inl (f.0, g.1, omega (arith, f, g))
chained x y z (inl f) (inr g) = absurd (omega (arith, f, g))
chained x y z (inr f) (inl g) = absurd (omega (arith, f, g))
chained x y z (inr f) (inr g) = inr (f.0, omega (arith, f, g))

spread : (s t : ℕ) → 10 ≤ s → s < 19 → 20 ≤ t → (a b : ℕ) → Given a b → OneTrack (at_slot s t a) (at_slot s t b)
spread s t l h k a b (inl g) = rw (g.0, g.1) (inl (omega (arith, l), omega (arith, h), omega arith))
spread s t l h k a b (inr g) = rw (g.0, g.1) (inr (omega (arith, k), omega arith))

spreads : (p k X a b : ℕ) → phylum_there meeting.ops p k ≡ Some X → Joins X a b → Rises p (occurrence k a) (occurrence k b)
spreads zero zero X a b is j = let e : 3 ≡ X = cc is in absurd (omega (arith, e, j.0))
spreads zero (suc zero) X a b is j = spread 12 20 (omega arith) (omega arith) (omega arith) a b j.1
spreads zero (suc (suc zero)) X a b is j = spread 10 22 (omega arith) (omega arith) (omega arith) a b j.1
spreads zero (suc (suc (suc k))) X a b is j = cc
spreads (suc zero) k X a b is j = spread 10 20 (omega arith) (omega arith) (omega arith) a b j.1
spreads (suc (suc p)) k X a b is j = spread 10 20 (omega arith) (omega arith) (omega arith) a b j.1

join : (s t : ℕ) → 10 ≤ s → s < 19 → 20 ≤ t → (a b : ℕ) → a < 4 → b < 4 → OneTrack (at_slot s t a) (at_slot s t b) → Given a b
join s t l h k zero zero m n o = absurd (elim o [ inl f ↦ omega (arith, l, h, k, f) | inr f ↦ omega (arith, l, h, k, f) ])
join s t l h k zero (suc zero) m n o = absurd (elim o [ inl f ↦ omega (arith, l, h, k, f) | inr f ↦ omega (arith, l, h, k, f) ])
join s t l h k zero (suc (suc zero)) m n o = inl (refl, refl)
join s t l h k zero (suc (suc (suc zero))) m n o = absurd (elim o [ inl f ↦ omega (arith, l, h, k, f) | inr f ↦ omega (arith, l, h, k, f) ])
join s t l h k zero (suc (suc (suc (suc b)))) m n o = absurd (omega (arith, n))
join s t l h k (suc zero) zero m n o = absurd (elim o [ inl f ↦ omega (arith, l, h, k, f) | inr f ↦ omega (arith, l, h, k, f) ])
join s t l h k (suc zero) (suc zero) m n o = absurd (elim o [ inl f ↦ omega (arith, l, h, k, f) | inr f ↦ omega (arith, l, h, k, f) ])
join s t l h k (suc zero) (suc (suc zero)) m n o = absurd (elim o [ inl f ↦ omega (arith, l, h, k, f) | inr f ↦ omega (arith, l, h, k, f) ])
join s t l h k (suc zero) (suc (suc (suc zero))) m n o = inr (refl, refl)
join s t l h k (suc zero) (suc (suc (suc (suc b)))) m n o = absurd (omega (arith, n))
join s t l h k (suc (suc zero)) zero m n o = absurd (elim o [ inl f ↦ omega (arith, l, h, k, f) | inr f ↦ omega (arith, l, h, k, f) ])
join s t l h k (suc (suc zero)) (suc zero) m n o = absurd (elim o [ inl f ↦ omega (arith, l, h, k, f) | inr f ↦ omega (arith, l, h, k, f) ])
join s t l h k (suc (suc zero)) (suc (suc zero)) m n o = absurd (elim o [ inl f ↦ omega (arith, l, h, k, f) | inr f ↦ omega (arith, l, h, k, f) ])
join s t l h k (suc (suc zero)) (suc (suc (suc zero))) m n o = absurd (elim o [ inl f ↦ omega (arith, l, h, k, f) | inr f ↦ omega (arith, l, h, k, f) ])
join s t l h k (suc (suc zero)) (suc (suc (suc (suc b)))) m n o = absurd (omega (arith, n))
join s t l h k (suc (suc (suc zero))) zero m n o = absurd (elim o [ inl f ↦ omega (arith, l, h, k, f) | inr f ↦ omega (arith, l, h, k, f) ])
join s t l h k (suc (suc (suc zero))) (suc zero) m n o = absurd (elim o [ inl f ↦ omega (arith, l, h, k, f) | inr f ↦ omega (arith, l, h, k, f) ])
join s t l h k (suc (suc (suc zero))) (suc (suc zero)) m n o = absurd (elim o [ inl f ↦ omega (arith, l, h, k, f) | inr f ↦ omega (arith, l, h, k, f) ])
join s t l h k (suc (suc (suc zero))) (suc (suc (suc zero))) m n o = absurd (elim o [ inl f ↦ omega (arith, l, h, k, f) | inr f ↦ omega (arith, l, h, k, f) ])
join s t l h k (suc (suc (suc zero))) (suc (suc (suc (suc b)))) m n o = absurd (omega (arith, n))
join s t l h k (suc (suc (suc (suc a)))) b m n o = absurd (omega (arith, m))

-- a chain at an occurrence of x joins i to s or j to t
joins : (p k X a b : ℕ) → phylum_there meeting.ops p k ≡ Some X → IsAttr (rules_of meeting) X a → IsAttr (rules_of meeting) X b → Rises p (occurrence k a) (occurrence k b) → Joins X a b
joins zero zero X a b is m n r = absurd (elim r [ inl f ↦ omega (arith, f) | inr f ↦ omega (arith, f) ])
joins zero (suc zero) X a b is m n r = let e : X ≡ 4 = cc is in (e, join 12 20 (omega arith) (omega arith) (omega arith) a b (rw e at m) (rw e at n) r)
joins zero (suc (suc zero)) X a b is m n r = let e : X ≡ 4 = cc is in (e, join 10 22 (omega arith) (omega arith) (omega arith) a b (rw e at m) (rw e at n) r)
joins zero (suc (suc (suc k))) X a b is m n r = cc
joins (suc zero) zero X a b is m n r = let e : X ≡ 4 = cc is in (e, join 10 20 (omega arith) (omega arith) (omega arith) a b (rw e at m) (rw e at n) r)
joins (suc zero) (suc k) X a b is m n r = cc
joins (suc (suc p)) zero X a b is m n r = cc
joins (suc (suc p)) (suc k) X a b is m n r = cc

-- so nothing else depends on anything
only : (X a b : ℕ) → InPhylum (rules_of meeting) X a b → Joins X a b
only = least_in_phylum (rules_of meeting) Rises Joins holds (λ p u v w f g. chained _ _ _ f g) spreads joins

same_itself : (n : ℕ) → nat_eq n n ≡ true
same_itself n = grind arith

from_two : (l : ℕ) → 1 ≤ l → true ≡ nat_eq (l % 2) 0 → 2 ≤ l
from_two zero h e = absurd (omega (arith, h))
from_two (suc zero) h e = cc
from_two (suc (suc l)) h e = omega arith

module _ (layer : ℕ → ℕ) (is : IsLayering (rules_of meeting) 4 layer) where
  lower : (a : ℕ) → a < 4 → nat_le 2 a ≡ true → IsOfKind (rules_of meeting) 4 1 a
  lower zero m e = cc
  lower (suc zero) m e = cc
  lower (suc (suc zero)) m e = refl
  lower (suc (suc (suc zero))) m e = refl
  lower (suc (suc (suc (suc a)))) m e = refl

  upper : (a : ℕ) → a < 4 → nat_lt a 2 ≡ true → IsOfKind (rules_of meeting) 4 2 a
  upper zero m e = refl
  upper (suc zero) m e = refl
  upper (suc (suc zero)) m e = cc
  upper (suc (suc (suc zero))) m e = cc
  upper (suc (suc (suc (suc a)))) m e = absurd (omega (arith, m))

  none_below : (a b : ℕ) → nat_le 2 a ≡ true → Given a b → ⊥
  none_below a b e (inl g) = let f : false ≡ true = rw g.0 at e in cc
  none_below a b e (inr g) = let f : false ≡ true = rw g.0 at e in cc

  taken_last : MayBeTaken (rules_of meeting) 4 layer 1 (λ b. nat_le 2 b)
  taken_last = record { kind = lower; not_before = λ a m e. is.positive a m; closed = λ a b m e d. absurd (none_below a b e (only 4 a b d).1) }

  s_last : layer 2 ≡ 1
  s_last = is.largest 1 (λ b. nat_le 2 b) (omega arith) taken_last 2 (omega arith) refl

  t_last : layer 3 ≡ 1
  t_last = is.largest 1 (λ b. nat_le 2 b) (omega arith) taken_last 3 (omega arith) refl

  kind_of : (a : ℕ) → a < 4 → IsOfKind (rules_of meeting) 4 (layer a) a
  kind_of a m = (is.allowed a m).kind a m (same_itself (layer a))

  above : (a : ℕ) → a < 4 → nat_lt a 2 ≡ true → 2 ≤ layer a
  above zero m e = from_two (layer 0) (is.positive 0 m) (kind_of 0 m)
  above (suc zero) m e = from_two (layer 1) (is.positive 1 m) (kind_of 1 m)
  above (suc (suc zero)) m e = cc
  above (suc (suc (suc zero))) m e = cc
  above (suc (suc (suc (suc a)))) m e = absurd (omega (arith, m))

  given_before : (a b : ℕ) → Given a b → layer b < 2
  given_before a b (inl g) = rw (g.1, s_last) (omega arith)
  given_before a b (inr g) = rw (g.1, t_last) (omega arith)

  taken_first : MayBeTaken (rules_of meeting) 4 layer 2 (λ b. nat_lt b 2)
  taken_first = record { kind = upper; not_before = above; closed = λ a b m e d. inr (given_before a b (only 4 a b d).1) }

  i_first : layer 0 ≡ 2
  i_first = is.largest 2 (λ b. nat_lt b 2) (omega arith) taken_first 0 (omega arith) refl

  j_first : layer 1 ≡ 2
  j_first = is.largest 2 (λ b. nat_lt b 2) (omega arith) taken_first 1 (omega arith) refl

-- the cycle x$1.i x$1.t x$2.j x$2.s is there in every layering
pub not_ordered : IsOrdered (rules_of meeting) → ⊥
not_ordered o =
    let is : IsLayering (rules_of meeting) 4 (o.layer 4) = o.layers 4 (omega arith) in
    let i : o.layer 4 3 < o.layer 4 0 = rw (t_last (o.layer 4) is, i_first (o.layer 4) is) (omega arith) in
    let j : o.layer 4 2 < o.layer 4 1 = rw (s_last (o.layer 4) is, j_first (o.layer 4) is) (omega arith) in
    o.acyclic 0 (omega arith) (at 1 0)
    (order.more _ _ _ (layered 0 1 4 0 3 refl (omega arith) (omega arith) i)
    (order.more _ _ _ (within 0 _ _ (Rattle.sg_kinds.specs.Dependencies.direct 0 _ _ edge_t))
    (order.more _ _ _ (layered 0 2 4 1 2 refl (omega arith) (omega arith) j)
    (order.one _ _ (within 0 _ _ (Rattle.sg_kinds.specs.Dependencies.direct 0 _ _ edge_s))))))
  where
    edge_s : Direct (rules_of meeting) 0 (at 2 2) (at 1 0)
    edge_s = record { rule = rule 0 (at 1 0) (at 2 2 ∷ []) 0; stands = (2, omega arith, refl); of_operator = refl; names = (0, omega arith, refl); target = refl }

    edge_t : Direct (rules_of meeting) 0 (at 1 3) (at 2 1)
    edge_t = record { rule = rule 0 (at 2 1) (at 1 3 ∷ []) 0; stands = (5, omega arith, refl); of_operator = refl; names = (0, omega arith, refl); target = refl }
