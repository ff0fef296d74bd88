-- The slots of a node that were looked at, none of which is noted.
use Rattle.std.specs.Prelude.{◌≡◌, ℕ, zero, suc, ◌+◌, ◌-◌, ◌<◌, ◌≤◌, false, ◌∷◌, length, slice_get, slice_index, Some, Contains}
use Rattle.std.proofs.Common.{refl, ap, ◌∙◌, subst, arith}
use Rattle.std.proofs.lemmas.List.{length-map}
use Rattle.sg_kinds.specs.Instances.{below}
use Rattle.sg_orders.specs.Keys.{operator_in}
use Rattle.sg_kinds.specs.Specification.{attrs_of, is_inherited, rules_of}
use Rattle.sg_kinds.specs.ValidPlans.{AreValid, visit_of}
use Rattle.sg_kinds.specs.Visits.{row_at}
use Rattle.sg_kinds.specs.declared.plans.Plans.{Plans}
use Rattle.sg_kinds.specs.declared.plans.PlanStep.TheVariants.{Visit}
use Rattle.sg_kinds.specs.declared.spec.Rules.{Rules}
use Rattle.sg_dependencies.proofs.Below.{length-below}
use Rattle.sg_orders.proofs.ValidFacts.{visit_low}
use Rattle.sg_forest.specs.declared.node_id.NodeId.{NodeId}
use Rattle.sg_forest.specs.Node as forest
use Rattle.sg_forest.specs.Trees.{IsChild}
use Rattle.sg_forest.proofs.Paths.{parent_is_live}
use Rattle.sg_groves.specs.declared.kind.Kind.{Kind}
use Rattle.sg_groves.specs.declared.part.Part.{Part}
use Rattle.sg_groves.specs.Grove.{Grove, nodes, IsGrove}
use Rattle.sg_plans.specs.Stepping.{steps_of}
use Rattle.sg_plans.proofs.Visiting.{step_row}
use Rattle.sg_terms.specs.Found.{op_at}
use Rattle.sg_attrib.specs.Visited.{IsVisited}
use Rattle.sg_attrib.proofs.Calls.{count_is, op_there}
use Rattle.sg_attrib.proofs.Nodes.{has_visit, label_op, planned}
use Rattle.sg_attrib.proofs.Placed.{has_place, kid_placed}
use Rattle.sg_propagate.specs.Worklist.{Worklist}
use Rattle.sg_propagate.specs.Moves.{IsQuiet, IsSeat, IsUp}
use Rattle.sg_propagate.proofs.Seats.{seat_there}
use Rattle.sg_propagate.proofs.Tops.{phylum_low}

pub positive : (k : ℕ) → (k ≡ 0 → ⊥) → 1 ≤ k
positive zero other = absurd (other refl)
positive (suc k) other = omega arith

abbrev pub IsQuietBelow : Plans → Grove → NodeId → ℕ → Worklist → ℕ → Type 0
IsQuietBelow plans g n k w end = (x : forest.Node Kind Part) (slot : ℕ) → slot < end → nodes g n ≡ Some x → is_inherited g.spec.phyla x.label.phylum slot ≡ false → slice_index (row_at plans.visits x.label.phylum) slot ≡ k → Contains w.changed (n.key, slot) → ⊥

-- the plans tell the visit of each attribute
pub row_long : (rules : Rules) (plans : Plans) → AreValid rules plans → (X : ℕ) → X < length rules.phyla → length (row_at plans.visits X) ≡ length (attrs_of rules.phyla X)
row_long rules plans valid X low = ap length (valid.visits X low).row ∙ length-map (below (length (attrs_of rules.phyla X))) (visit_of rules X (valid.layer X)) ∙ length-below (length (attrs_of rules.phyla X))

module _ (g : Grove) (is : IsGrove g) (plans : Plans) (valid : AreValid (rules_of g.spec) plans) where
  -- no attribute is of a visit before the first
  pub quiet_first : (n : NodeId) (w : Worklist) → IsQuiet plans g n 0 w
  quiet_first n w x slot found attr given visit noted =
      let low = visit_low (rules_of g.spec) plans valid x.label.phylum slot (phylum_low g is n x found) attr in
      omega (arith, low, visit)

  -- the step that is a visit of a node stands in the plan of the node above
  pub seat_needed : (n : NodeId) (k : ℕ) → IsVisited plans g n k → (above : NodeId) (kid : ℕ) → IsChild (nodes g) n above kid → (op : ℕ) × (op_at g above ≡ Some op) × ((i : ℕ) × (from : ℕ) × IsSeat plans op kid k i from)
  seat_needed n k v above kid hangs =
      let p = has_place g is above (parent_is_live (nodes g) is.forest.linked n above kid hangs) in
      let t = p.term in
      let plan = planned g is plans valid p.root t p.placed.top p.placed.holds in
      let placed = kid_placed g is above n p.root kid t p.place hangs p.placed in
      let seat = seat_there g.spec plans t plan kid p.place k (has_visit g is plans n p.root k t (kid ∷ p.place) placed v) in
      let there = seat.2 in
      let op = operator_in t p.place in (
        op,
        label_op g is above p.root t p.place p.placed op there.node,
        (
          seat.0,
          seat.1 + 1,
          record { low = there.low; row = step_row g.spec plans t plan p.place seat.0 there; begun = omega arith; at = subst (λ m. slice_get (steps_of plans op seat.0) m ≡ Some (Visit kid k)) (let e : seat.1 ≡ seat.1 + 1 - 1 = omega arith in e) seat.3 },
        ),
      )

  pub seat_found : (n : NodeId) (k : ℕ) (above : NodeId) (kid : ℕ) → IsChild (nodes g) n above kid → (op : ℕ) → op_at g above ≡ Some op → (i from : ℕ) → IsSeat plans op kid k i from → IsUp plans g n k above i from
  seat_found n k above kid hangs op at i from seat = record {
    kid = kid;
    hangs = hangs;
    visited = record {
      op = op;
      is = at;
      low = seat.low;
      high = λ x found. (let count = (count_is g is plans above op (length (row_at plans.steps op)) at (valid.steps op (op_there g is above op at)).count x found).1 in let row = seat.row in let low = seat.low in omega (arith, count, row, low));
    };
    begun = seat.begun;
    at = seat.at;
  }
