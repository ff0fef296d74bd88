-- What the steps of a visit need of the node, so that they can be taken.
use Rattle.std.specs.Prelude.{◌≡◌, ℕ, ◌-◌, ◌<◌, ◌≤◌, List, ◌∷◌, length, None, Some, Ok, MatchOption, slice_get, option_and_then}
use Rattle.std.proofs.Common.{sym, ap, ◌∙◌, subst, arith}
use Rattle.std.proofs.lemmas.Option.{none-some, slice_get_within}
use Rattle.sg_kinds.proofs.Elementary.{option_map_some}
use Rattle.sg_kinds.specs.Nets.{Operation}
use Rattle.sg_orders.specs.Keys.{operator_in}
use Rattle.sg_kinds.specs.Specification.{args_of, phylum_of, rules_of}
use Rattle.sg_kinds.specs.ValidPlans.{AreValid}
use Rattle.sg_kinds.specs.Visits.{row_at, visit_count}
use Rattle.sg_kinds.specs.declared.plans.Plans.{Plans}
use Rattle.sg_kinds.specs.declared.plans.PlanStep.{PlanStep}
use Rattle.sg_kinds.specs.declared.plans.PlanStep.TheVariants.{Eval, Visit}
use Rattle.sg_kinds.specs.declared.spec.Operator.{Operator}
use Rattle.sg_kinds.specs.declared.spec.Rule.{Rule}
use Rattle.sg_eval.specs.declared.journal.Instance.{Instance}
use Rattle.sg_forest.specs.declared.node_id.NodeId.{NodeId}
use Rattle.sg_forest.specs.Node as forest
use Rattle.sg_forest.specs.Trees.{IsChild}
use Rattle.sg_groves.specs.declared.kind.Kind.{Kind}
use Rattle.sg_groves.specs.declared.part.Part.{Part}
use Rattle.sg_groves.specs.Grove.{Grove, nodes, IsGrove}
use Rattle.sg_groves.specs.Unchanged.{OnlyStored}
use Rattle.sg_plans.specs.Planned.{IsPlanned}
use Rattle.sg_plans.specs.Segments.{HasVisit}
use Rattle.sg_plans.specs.Stepping.{steps_of}
use Rattle.sg_plans.proofs.Nodes.{below_at}
use Rattle.sg_plans.proofs.Visiting.{step_child, step_equation, step_row, visit_there}
use Rattle.sg_terms.specs.Found.{op_at}
use Rattle.sg_attrib.specs.Visited.{IsGiven, IsKnown, IsVisited, IsStepAt, Gives}
use Rattle.sg_attrib.proofs.Placed.{Slots, HasPlace, has_place, kid_placed}
use Rattle.sg_attrib.proofs.Composed.{gives_nothing}
use Rattle.sg_attrib.proofs.Nodes.{op_live, op_in, label_op, operation_is, planned, has_visit, is_visited}

module _ (g : Grove) (is : IsGrove g) (plans : Plans) (valid : AreValid (rules_of g.spec) plans) where
  module _ (n : NodeId) (k : ℕ) (v : IsVisited plans g n k) where
    abbrev place : HasPlace g is n
    place = has_place g is n (op_live g is n v.op v.is)

    abbrev plan : IsPlanned g.spec plans place.term
    plan = planned g is plans valid place.root place.term place.placed.top place.placed.holds

    abbrev has : HasVisit (rules_of g.spec) plans place.term place.place k
    has = has_visit g is plans n place.root k place.term place.place place.placed v

    pub visit_row : k - 1 < length (row_at plans.steps v.op)
    visit_row = subst (λ op. k - 1 < length (row_at plans.steps op)) (op_in g is n place.root place.term place.place place.placed v.op v.is) (step_row g.spec plans place.term plan place.place k has)

    module _ (m : ℕ) (s : PlanStep) (at : slice_get (steps_of plans v.op k) m ≡ Some s) where
      step_here : slice_get (steps_of plans (operator_in place.term place.place) k) m ≡ Some s
      step_here = ap (λ op. slice_get (steps_of plans op k) m) (op_in g is n place.root place.term place.place place.placed v.op v.is) ∙ at

      pub equation_by : (r : ℕ) → s ≡ Eval r → (x : Rule) × (slice_get g.spec.rules r ≡ Some x) × (op_at g n ≡ Some x.op)
      equation_by r e =
          let found = step_equation g.spec plans place.term plan place.place k m r has (step_here ∙ ap (λ z. Some z) e) in
          (found.0, found.1, label_op g is n place.root place.term place.place place.placed found.0.op (has.node ∙ ap (λ q. Operation q) (sym found.2)))

      pub child_by : (kid j : ℕ) → s ≡ Visit kid j → HasVisit (rules_of g.spec) plans place.term (kid ∷ place.place) j
      child_by kid j e = step_child g.spec plans place.term plan place.place k m kid j has (step_here ∙ ap (λ z. Some z) e)

  pub step_operator : (n : NodeId) (s : PlanStep) (r : ℕ) → s ≡ Eval r → IsStepAt plans g n s → (x : Rule) × (slice_get g.spec.rules r ≡ Some x) × (op_at g n ≡ Some x.op)
  step_operator n s r e st = equation_by n st.visit st.visited st.place s st.at r e

  pub step_arity : (n : NodeId) (s : PlanStep) (kid j : ℕ) → s ≡ Visit kid j → IsStepAt plans g n s → (x : forest.Node Kind Part) → nodes g n ≡ Some x → kid < x.label.arity
  step_arity n s kid j e st x found =
      let v = st.visited in
      let p = has_place g is n (op_live g is n v.op v.is) in
      let plan = planned g is plans valid p.root p.term p.placed.top p.placed.holds in
      let below = below_at g.spec p.term plan.root plan.fits kid p.place (child_by n st.visit v st.place s st.at kid j e).node in
      let low = slice_get_within (args_of g.spec.ops v.op) kid below.phylum (ap (λ op. slice_get (args_of g.spec.ops op) kid) (sym (op_in g is n p.root p.term p.place p.placed v.op v.is)) ∙ below.arg) in
      let operation = operation_is g is n x v.op found v.is in
      let arity = operation.arity in
      omega (arith, low, arity)

  pub step_visited : (n c : NodeId) (s : PlanStep) (kid j : ℕ) → s ≡ Visit kid j → IsStepAt plans g n s → IsChild (nodes g) c n kid → IsVisited plans g c j
  step_visited n c s kid j e st hangs =
      let v = st.visited in
      let p = has_place g is n (op_live g is n v.op v.is) in
      is_visited g is plans c p.root j p.term (kid ∷ p.place) (kid_placed g is n c p.root kid p.term p.place hangs p.placed) (child_by n st.visit v st.place s st.at kid j e)

-- where only stored values change a node has its visits still
module _ (plans : Plans) (old new : Grove) (changed : Slots) (only : OnlyStored old new changed) (n : NodeId) (k : ℕ) (is : IsGrove old) (v : IsVisited plans old n k) where
  abbrev now : (y : forest.Node Kind Part) × (nodes new n ≡ Some y) × (y.label ≡ (op_live old is n v.op v.is).node.label)
  now =
      let live = op_live old is n v.op v.is in
      let kept = only.shape.kept n live.node live.found in
      (kept.0, kept.1, kept.2)

  pub op_still : op_at new n ≡ Some v.op
  op_still =
      let live = op_live old is n v.op v.is in
      ap (option_and_then (λ (x : forest.Node Kind Part). x.label.op)) now.1 ∙ ap (λ (l : Kind). l.op) now.2 ∙ sym (ap (option_and_then (λ (x : forest.Node Kind Part). x.label.op)) live.found) ∙ v.is

  pub visited_still : IsVisited plans new n k
  visited_still =
      let live = op_live old is n v.op v.is in
      record {
        op = v.op;
        is = op_still;
        low = v.low;
        high = λ x found.
            let same : x ≡ now.0 = cc (found, now.1) in
            subst (λ (l : Kind). k ≤ visit_count plans l.phylum) (sym now.2 ∙ ap (λ z. z.label) (sym same)) (v.high live.node live.found);
      }

  pub step_still : (m : ℕ) (s : PlanStep) → slice_get (steps_of plans v.op k) m ≡ Some s → IsStepAt plans new n s
  step_still m s at = record { visit = k; visited = record { op = v.op; is = op_still; low = v.low; high = visited_still.high }; place = m; at = at }

-- a leaf has no visit
pub leaf_gives : {A E : Type 0} (g : Grove) → IsGrove g → (plans : Plans) → AreValid (rules_of g.spec) plans → (was : List Instance) (n : NodeId) (k : ℕ) (y : A) → op_at g n ≡ None
    → Gives {A = A} {E = E} (IsKnown (rules_of g.spec) plans k) (IsGiven (rules_of g.spec) plans k) g g was was n (Ok y)
leaf_gives g is plans valid was n k y none =
    gives_nothing (IsKnown (rules_of g.spec) plans k) (IsGiven (rules_of g.spec) plans k) g was n y (λ root t u placed a given.
    let plan = planned g is plans valid root t placed.top placed.holds in
    let has = visit_there g.spec plans t plan u k given.site given.of_visit in
    none-some (operator_in t u) (sym none ∙ label_op g is n root t u placed (operator_in t u) has.node))

-- an operator's place, and how many visits its nodes have
pub op_there : (g : Grove) → IsGrove g → (n : NodeId) (op : ℕ) → op_at g n ≡ Some op → op < length g.spec.ops
op_there g is n op at =
    let live = op_live g is n op at in
    let operation = operation_is g is n live.node op live.found at in
    let found = option_map_some (λ (o : Operator). o.phylum) (slice_get g.spec.ops op) live.node.label.phylum operation.phylum in
    slice_get_within g.spec.ops op found.0 found.1

pub count_is : (g : Grove) → IsGrove g → (plans : Plans) (n : NodeId) (op last : ℕ) → op_at g n ≡ Some op → MatchOption (phylum_of g.spec.ops op) ⊥ (λ X. last ≡ visit_count plans X)
    → (x : forest.Node Kind Part) → nodes g n ≡ Some x → (phylum_of g.spec.ops op ≡ Some x.label.phylum) × (last ≡ visit_count plans x.label.phylum)
count_is g is plans n op last at count x found =
    let operation = operation_is g is n x op found at in
    (operation.phylum, subst (λ o. MatchOption o ⊥ (λ X. last ≡ visit_count plans X)) operation.phylum count)
