-- Positions and visits of a node along a way down from it.
use Rattle.std.specs.Prelude.{◌≡◌, ℕ, ◌≤◌, List, [], ◌∷◌, ◌++◌, Some}
use Rattle.std.proofs.Common.{refl, sym, ap, ◌∙◌, arith, inl, inr, append_assoc}
use Rattle.std.proofs.lemmas.Bool.{cases_lt}
use Rattle.std.proofs.lemmas.List.{append_cancel_right}
use Rattle.sg_kinds.specs.declared.spec.Spec.{Spec}
use Rattle.sg_kinds.specs.declared.spec.Rules.{Rules}
use Rattle.sg_kinds.specs.Terms.{Term}
use Rattle.sg_kinds.specs.Fits.{Fits}
use Rattle.sg_kinds.specs.Specification.{phylum_of, rules_of}
use Rattle.sg_kinds.specs.Places.{Place}
use Rattle.sg_kinds.specs.Instances.{Site}
use Rattle.sg_orders.specs.Keys.{operator_in}
use Rattle.sg_kinds.specs.ValidPlans.{AreValid}
use Rattle.sg_kinds.specs.declared.plans.Plans.{Plans}
use Rattle.sg_kinds.specs.Visits.{visit_count, belongs, seat}
use Rattle.sg_dependencies.specs.Vertices.{AreInRange}
use Rattle.sg_orders.specs.Timed.{AreTimed}
use Rattle.sg_orders.proofs.PlanFacts.{belonging, belongs_rises, seat_rises}
use Rattle.sg_orders.proofs.ValidFacts.{valid_timed}
use Rattle.sg_plans.specs.Segments.{position_at, visit_at, position_of, IsOfVisit}
use Rattle.sg_plans.proofs.Nodes.{IsNodeAt, node_at, below_at}

-- a way in two parts
pub position_joins : (rules : Rules) (plans : Plans) (t : Term) (v w : List ℕ) (u : Place) (q : ℕ) → position_at rules plans t (v ++ w) u q ≡ position_at rules plans t w u (position_at rules plans t v (w ++ u) q)
position_joins rules plans t [] w u q = refl
position_joins rules plans t (k ∷ v) w u q =
    position_joins rules plans t v w u (seat rules plans (operator_in t ((v ++ w) ++ u)) k (belongs rules plans (operator_in t (k ∷ (v ++ w) ++ u)) q))
    ∙ ap (λ n. position_at rules plans t w u (position_at rules plans t v (w ++ u) (seat rules plans (operator_in t n) k (belongs rules plans (operator_in t (k ∷ n)) q)))) (append_assoc v w u)

-- there is one way between two places, and an equation is of one visit
pub one_way : (v w : List ℕ) (u n : Place) → n ≡ v ++ u → n ≡ w ++ u → v ≡ w
one_way v w u n at to = append_cancel_right v w u (sym at ∙ to)

pub one_visit : (rules : Rules) (plans : Plans) (t : Term) (u : Place) (j k : ℕ) (i : Site Place) → IsOfVisit rules plans t u j i → IsOfVisit rules plans t u k i → j ≡ k
one_visit rules plans t u j k i is are = sym is.visit ∙ ap (λ w. visit_at rules plans t w u (position_of rules plans i)) (one_way is.way are.way u i.node is.below are.below) ∙ are.visit

module _ (spec : Spec) (ranges : AreInRange (rules_of spec)) (plans : Plans) (valid : AreValid (rules_of spec) plans) (t : Term) (root : ℕ) (fits : Fits spec t root) where
  abbrev rules : Rules
  rules = rules_of spec

  timed : AreTimed (rules_of spec) plans
  timed = valid_timed (rules_of spec) plans valid

  -- a position belongs to one of the visits
  pub visit_low : (u : Place) (q : ℕ) → IsNodeAt t u → 1 ≤ belongs rules plans (operator_in t u) q
  visit_low u q is = let n = node_at spec t root fits u is in (belonging rules ranges plans timed (operator_in t u) n.low n.phylum q n.left).low

  pub visit_high : (u : Place) (q X : ℕ) → IsNodeAt t u → phylum_of spec.ops (operator_in t u) ≡ Some X → belongs rules plans (operator_in t u) q ≤ visit_count plans X
  visit_high u q X is left = let n = node_at spec t root fits u is in (belonging rules ranges plans timed (operator_in t u) n.low X q left).high

  -- visits of a node never fall as its positions rise
  pub visits_rise : (u : Place) (q r : ℕ) → IsNodeAt t u → q ≤ r → belongs rules plans (operator_in t u) q ≤ belongs rules plans (operator_in t u) r
  visits_rise u q r is le = let n = node_at spec t root fits u is in belongs_rises rules ranges plans timed (operator_in t u) n.low n.phylum q r n.left le

  -- nor do its positions along a way
  pub positions_rise : (w : List ℕ) (u : Place) (q r : ℕ) → IsNodeAt t (w ++ u) → q ≤ r → position_at rules plans t w u q ≤ position_at rules plans t w u r
  positions_rise [] u q r is le = le
  positions_rise (k ∷ w) u q r is le =
      let b = below_at spec t root fits k (w ++ u) is in
      let x = belongs rules plans (operator_in t (k ∷ w ++ u)) q in
      let y = belongs rules plans (operator_in t (k ∷ w ++ u)) r in
      let rise = visits_rise (k ∷ w ++ u) q r is le in
      elim (cases_lt x y) [
        | inl under ↦
            let above = node_at spec t root fits (w ++ u) b.above in
            let less = seat_rises rules ranges plans timed (operator_in t (w ++ u)) above.low k b.phylum x y b.arg (visit_low (k ∷ w ++ u) q is) under (visit_high (k ∷ w ++ u) r b.phylum is b.left) in
            positions_rise w u (seat rules plans (operator_in t (w ++ u)) k x) (seat rules plans (operator_in t (w ++ u)) k y) b.above (omega (arith, less))
        | inr past ↦
            let same : x ≡ y = omega (arith, rise, past) in
            let equal = ap (λ n. position_at rules plans t w u (seat rules plans (operator_in t (w ++ u)) k n)) same in
            omega (arith, equal)
      ]
