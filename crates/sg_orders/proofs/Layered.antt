-- The least layers that the dependencies allow are the layering.
use Rattle.std.specs.Prelude.{◌≡◌, ℕ, zero, suc, ◌+◌, ◌%◌, ◌≤◌, Bool, true, nat_eq, List, length, slice_index}
use Rattle.std.proofs.Common.{refl, sym, ◌∙◌, ap, subst, arith, inl, inr}
use Rattle.std.proofs.lemmas.Bool.{cases_lt, eqb-true, eq-eqb}
use Rattle.sg_sets.specs.Relations.{predecessors}
use Rattle.sg_kinds.specs.declared.spec.Rules.{Rules}
use Rattle.sg_kinds.specs.declared.spec.Occurrence.{Occurrence}
use Rattle.sg_kinds.specs.Specification.{attrs_of}
use Rattle.sg_kinds.specs.Dependencies.{IsAttr, occurrence, InOperator, Chain, InPhylum, induced, one, more, joined}
use Rattle.sg_kinds.specs.Layers.{IsLayering, MayBeTaken}
use Rattle.sg_dependencies.specs.Ordered as order
use Rattle.sg_dependencies.specs.Ordered.{Leads}
use Rattle.sg_dependencies.specs.Faults.{AreAcyclic}
use Rattle.sg_dependencies.specs.Induced.{AreRowsOfPhylum}
use Rattle.sg_dependencies.proofs.Directs.{op_there}
use Rattle.sg_dependencies.proofs.Sound.{phylum_attrs, attr_vertex}
use Rattle.sg_orders.specs.LeastLayers.{AreLeastLayers}
use Rattle.sg_orders.specs.StrictOrders.{IsStrictOrder}
use Rattle.sg_orders.proofs.Rising.{rising, fewer}

chain_leads : (rules : Rules) (p : ℕ) (u v : Occurrence) → Chain rules p u v → Leads (InOperator rules p) u v
chain_leads rules _ _ _ (one p u v d) = order.one u v d
chain_leads rules _ _ _ (more p u v w d c) = order.more u v w d (chain_leads rules p v w c)

chain_on : (rules : Rules) (p : ℕ) (u v w : Occurrence) → Chain rules p u v → InOperator rules p v w → Chain rules p u w
chain_on rules _ _ _ w (one p u v d) e = more p u v w d (one p v w e)
chain_on rules _ _ _ w (more p u v x d c) e = more p u v w d (chain_on rules p v x w c e)

-- dependencies of a phylum follow each other
pub phylum_on : (rules : Rules) (X a b c : ℕ) → InPhylum rules X a b → InPhylum rules X b c → InPhylum rules X a c
phylum_on rules _ _ _ c (joined p k X a b is m n chain) d =
    joined p k X a c is m (phylum_attrs rules X b c d).1 (chain_on rules p (occurrence k a) (occurrence k b) (occurrence k c) chain (induced p k X b c is d))

-- where no operator has a cycle, no attribute depends on itself
pub phylum_apart : (rules : Rules) → AreAcyclic rules (InOperator rules) → (X a b : ℕ) → InPhylum rules X a b → a ≡ b → ⊥
phylum_apart rules none _ _ _ (joined p k X a b is m n chain) same =
    none p (op_there rules p (occurrence k a) (attr_vertex rules p k X a is m)) (occurrence k a)
    (chain_leads rules p (occurrence k a) (occurrence k a) (subst (λ c. Chain rules p (occurrence k a) (occurrence k c)) (sym same) chain))

module _ (rules : Rules) (X : ℕ) (rows : List (List Bool)) (are : AreRowsOfPhylum rules X rows) where
  pub strict_order : AreAcyclic rules (InOperator rules) → IsStrictOrder rows
  strict_order none = record {
    within = λ a b h. let attrs = phylum_attrs rules X a b ((are.holds a b).0 h) in let s = are.size in let m = attrs.1 in omega (arith, m, s);
    transitive = λ a b c h g. (are.holds a c).1 (phylum_on rules X a b c ((are.holds a b).0 h) ((are.holds b c).0 g));
    irreflexive = λ a h. phylum_apart rules none X a a ((are.holds a a).0 h) refl;
  }

  module _ (layers : List ℕ) (strict : IsStrictOrder rows) (least : AreLeastLayers (attrs_of rules.phyla X) rows layers) where
    abbrev layer : ℕ → ℕ
    layer a = slice_index layers a

    -- what may be taken at m has no higher layer
    no_higher : (m : ℕ) (taken : ℕ → Bool) → 1 ≤ m → MayBeTaken rules X layer m taken → (fuel a : ℕ) → IsAttr rules X a → taken a ≡ true → length rows ≤ predecessors rows a + fuel → layer a ≤ m
    no_higher m taken low may zero a attr in' high = absurd (let f = fewer rows strict a (let s = are.size in omega (arith, attr, s)) in omega (arith, f, high))
    no_higher m taken low may (suc fuel) a attr in' high =
        (least.each a attr).least m (record {
          positive = low;
          kind = may.kind a attr in';
          after = λ b h.
              let d = (are.holds a b).0 h in
              elim (may.closed a b attr in' d) [
                | inl also ↦ no_higher m taken low may fuel b (phylum_attrs rules X a b d).1 also (let r = rising rows strict a b h in omega (arith, r, high))
                | inr under ↦ omega (arith, under)
              ];
        })

    pub layering_by : IsLayering rules X layer
    layering_by = record {
      positive = λ a attr. (least.each a attr).allowed.positive;
      allowed = λ a attr. record {
        kind = λ b there e. (least.each b there).allowed.kind ∙ ap (λ n. nat_eq (n % 2) 0) (eqb-true (layer b) (layer a) e);
        not_before = λ b there e. let same = eqb-true (layer b) (layer a) e in omega (arith, same);
        closed = λ b c there e d.
            let same = eqb-true (layer b) (layer a) e in
            let most = (least.each b there).allowed.after c ((are.holds b c).1 d) in
            elim (cases_lt (layer c) (layer a)) [
              | inl under ↦ inr under
              | inr past ↦ inl (eq-eqb (layer c) (layer a) (omega (arith, past, most, same)))
            ];
      };
      largest = λ m taken low may a attr in'.
          let most = no_higher m taken low may (length rows) a attr in' (omega arith) in
          let from = may.not_before a attr in' in
          omega (arith, most, from);
    }
