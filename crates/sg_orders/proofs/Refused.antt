-- Equations with a fault are not ordered.
use Rattle.std.specs.Prelude.{◌≡◌, ℕ, ◌<◌, List, [], ◌∷◌, length}
use Rattle.std.proofs.Common.{refl, sym, ◌∙◌, subst, arith}
use Rattle.sg_sets.specs.Cycles.{IsCycle}
use Rattle.sg_sets.specs.Paths as path
use Rattle.sg_kinds.specs.declared.spec.Rules.{Rules}
use Rattle.sg_kinds.specs.declared.spec.Occurrence.{Occurrence}
use Rattle.sg_kinds.specs.Dependencies as depend
use Rattle.sg_kinds.specs.Dependencies.{InOperator}
use Rattle.sg_kinds.specs.Layers.{IsLayering, Extended, within, layered}
use Rattle.sg_dependencies.specs.Ordered as order
use Rattle.sg_dependencies.specs.Ordered.{Leads, IsAcyclic, IsOrdered}
use Rattle.sg_kinds.specs.Visits.{vertex}
use Rattle.sg_dependencies.specs.Faults.{IsFault}
use Rattle.sg_dependencies.specs.Vertices.{AreInRange, Numbered}
use Rattle.sg_dependencies.specs.declared.fault.OrderFault.{OrderFault}
use Rattle.sg_dependencies.specs.declared.fault.OrderFault.TheVariants.{Direct, Induced, Ordered, NoMemory}
use Rattle.sg_dependencies.proofs.Numbers.{same_vertex}
use Rattle.sg_dependencies.proofs.Ranges.{phylum_in}
use Rattle.sg_dependencies.proofs.Sound.{AreVertices, direct_vertices, operator_vertices, attr_vertex}
use Rattle.sg_orders.proofs.Extends.{acyclic_narrower}
use Rattle.sg_orders.proofs.Unique.{same_layers}

pub extended_vertices : (rules : Rules) → AreInRange rules → (layer : ℕ → ℕ → ℕ) (p : ℕ) (u v : Occurrence) → Extended rules layer p u v → AreVertices rules p u v
extended_vertices rules ranges layer _ _ _ (within p u v d) = operator_vertices rules ranges p u v d
extended_vertices rules ranges layer _ _ _ (layered p k X a b is m n e) = record { from = attr_vertex rules p k X a is m; to = attr_vertex rules p k X b is n }

module _ (rules : Rules) (p : ℕ) (R : Occurrence → Occurrence → Type 0) (there : (u v : Occurrence) → R u v → AreVertices rules p u v) where
  -- vertices with these numbers, of which one leads to the other
  record AreLed (m n : ℕ) : Type 0 where
    from : Occurrence
    to : Occurrence
    vertices : AreVertices rules p from to
    from_number : vertex rules p from ≡ m
    to_number : vertex rules p to ≡ n
    leads : Leads R from to

  led : (via : List ℕ) (m n : ℕ) → path.Leads (Numbered rules p R) m via n → AreLed m n
  led [] m n s = record { from = s.from; to = s.to; vertices = there s.from s.to s.related; from_number = s.from_number; to_number = s.to_number; leads = order.one s.from s.to s.related }
  led (x ∷ via) m n steps =
      let s = steps.0 in
      let rest = led via x n steps.1 in
      let v = there s.from s.to s.related in
      let same : rest.from ≡ s.to = same_vertex rules p rest.from s.to rest.vertices.from v.to (rest.from_number ∙ sym s.to_number) in
      record {
        from = s.from;
        to = rest.to;
        vertices = record { from = v.from; to = rest.vertices.to };
        from_number = s.from_number;
        to_number = rest.to_number;
        leads = order.more s.from s.to rest.to s.related (subst (λ o. Leads R o rest.to) same rest.leads);
      }

  pub no_cycle : IsAcyclic R → (c : List ℕ) → IsCycle (Numbered rules p R) c → ⊥
  no_cycle none [] cycle = cycle
  no_cycle none (a ∷ via) cycle =
      let l = led via a a cycle in
      let same : l.to ≡ l.from = same_vertex rules p l.to l.from l.vertices.to l.vertices.from (l.to_number ∙ sym l.from_number) in
      none l.from (subst (λ o. Leads R l.from o) same l.leads)

-- layers are unique, so that the extended dependencies are the same under any
pub same_extended : (rules : Rules) → AreInRange rules → (layer other : ℕ → ℕ → ℕ) → ((X : ℕ) → X < length rules.phyla → IsLayering rules X (layer X)) → ((X : ℕ) → X < length rules.phyla → IsLayering rules X (other X))
    → (p : ℕ) (u v : Occurrence) → Extended rules layer p u v → Extended rules other p u v
same_extended rules ranges layer other is are _ _ _ (within p u v d) = within p u v d
same_extended rules ranges layer other is are _ _ _ (layered p k X a b there m n e) =
    let low = phylum_in rules ranges p k X there in
    let from = same_layers rules X (layer X) (other X) (is X low) (are X low) a m in
    let to = same_layers rules X (layer X) (other X) (is X low) (are X low) b n in
    layered p k X a b there m n (omega (arith, from, to, e))

pub refused : (rules : Rules) → AreInRange rules → (e : OrderFault) → IsFault rules e → (e ≡ NoMemory → ⊥) → IsOrdered rules → ⊥
refused rules ranges (Direct p c) is other o =
    no_cycle rules p (depend.Direct rules p) (direct_vertices rules ranges p)
    (acyclic_narrower (depend.Direct rules p) (Extended rules o.layer p) (λ u v d. within p u v (depend.direct p u v d)) (o.acyclic p is.there)) c is.cycle.cycle
refused rules ranges (Induced p c) is other o =
    no_cycle rules p (InOperator rules p) (operator_vertices rules ranges p)
    (acyclic_narrower (InOperator rules p) (Extended rules o.layer p) (λ u v d. within p u v d) (o.acyclic p is.1.there)) c is.1.cycle.cycle
refused rules ranges (Ordered p c) is other o =
    let at = is.2 in
    no_cycle rules p (Extended rules at.layer p) (extended_vertices rules ranges at.layer p)
    (acyclic_narrower (Extended rules at.layer p) (Extended rules o.layer p) (same_extended rules ranges at.layer o.layer at.layers o.layers p) (o.acyclic p at.first.there)) c at.first.cycle.cycle
refused rules ranges NoMemory is other o = other refl
