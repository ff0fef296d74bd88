-- What valid plans give attribution.
use Rattle.std.specs.Prelude.{◌≡◌, ℕ, ◌<◌, ◌≤◌, length, slice_index, Some, Contains}
use Rattle.sg_kinds.specs.declared.plans.Plans.{Plans}
use Rattle.sg_kinds.specs.declared.spec.Spec.{Spec}
use Rattle.sg_kinds.specs.declared.spec.Rules.{Rules}
use Rattle.sg_kinds.specs.declared.spec.Occurrence.{Occurrence}
use Rattle.sg_kinds.specs.Terms.{Term}
use Rattle.sg_kinds.specs.Fits.{Fits}
use Rattle.sg_kinds.specs.Specification.{rules_of}
use Rattle.sg_kinds.specs.Places.{Place}
use Rattle.sg_kinds.specs.Nets.{Reference, referred, net_of}
use Rattle.sg_kinds.specs.Instances.{Site, instances, site_of}
use Rattle.sg_orders.specs.Keys.{key, IsLess}
use Rattle.sg_kinds.specs.FromScratch.{leaf_or, site_value, value_in}
use Rattle.sg_kinds.specs.Dependencies.{IsAttr}
use Rattle.sg_kinds.specs.ValidPlans.{AreValid}
use Rattle.sg_kinds.specs.Visits.{row_at, visit_count}
use Rattle.sg_dependencies.specs.Proper.{AreProper}
use Rattle.sg_dependencies.specs.Vertices.{AreInRange}
use Rattle.sg_orders.specs.LiveSites.{IsLive}
use Rattle.sg_orders.specs.PlanFacts.{HasPlanFacts}
use Rattle.sg_orders.specs.StepFacts.{HasStepFacts}
use Rattle.sg_orders.specs.Timed.{AreTimed}
use Rattle.sg_orders.proofs.PlanFacts as facts
use Rattle.sg_orders.proofs.StepFacts as steps
use Rattle.sg_orders.proofs.KeysFall as keys
use Rattle.sg_orders.proofs.Fixpoint as values

pub valid_timed : (rules : Rules) (plans : Plans) → AreValid rules plans → AreTimed rules plans
valid_timed rules plans valid = record { layer = valid.layer; visits = valid.visits; positions = valid.positions }

pub plan_facts : (rules : Rules) (plans : Plans) → AreInRange rules → AreValid rules plans → (p : ℕ) → p < length rules.ops → HasPlanFacts rules plans p
plan_facts rules plans ranges valid p op =
    let timed = valid_timed rules plans valid in
    record {
      visits_rise = facts.belongs_rises rules ranges plans timed p op;
      last = facts.belongs_last rules ranges plans timed p op;
      seats_rise = facts.seat_rises rules ranges plans timed p op;
      inherited_by = facts.inherited_by rules ranges plans timed p op;
      inherited_before = facts.inherited_before_seat rules ranges plans timed p op;
      seat_before = facts.seat_before rules ranges plans timed p op;
      own_visit = facts.belongs_itself rules ranges plans timed p op;
      named_before = λ r o stands is names. facts.named_before rules ranges plans timed p op r o stands is names;
    }

pub visit_low : (rules : Rules) (plans : Plans) → AreValid rules plans → (X a : ℕ) → X < length rules.phyla → IsAttr rules X a → 1 ≤ slice_index (row_at plans.visits X) a
visit_low rules plans valid X a low there = facts.visit_low rules X (valid.layer X) plans (valid.visits X low) a there

pub visit_high : (rules : Rules) (plans : Plans) → AreValid rules plans → (X a : ℕ) → X < length rules.phyla → IsAttr rules X a → slice_index (row_at plans.visits X) a ≤ visit_count plans X
visit_high rules plans valid X a low there = facts.visit_high rules X (valid.layer X) plans (valid.visits X low) a there

pub step_facts : (rules : Rules) (plans : Plans) → AreInRange rules → AreProper rules → AreValid rules plans → (p : ℕ) → p < length rules.ops → HasStepFacts rules plans p
step_facts rules plans ranges proper valid p op =
    let timed = valid_timed rules plans valid in
    let at_p = valid.positions p op in
    record {
      position_low = steps.position_low rules ranges plans valid.layer p at_p;
      one_vertex = steps.one_vertex rules ranges plans valid.layer p at_p;
      one_position = steps.one_position rules plans p;
      one_step = steps.one_step rules ranges proper plans timed p op;
      step_low = steps.step_low rules ranges proper plans timed p op;
    }

pub keys_fall : (spec : Spec) (plans : Plans) (t : Term) (root : ℕ) → AreInRange (rules_of spec) → AreValid (rules_of spec) plans → Fits spec t root
    → (i : Site Place) → IsLive (rules_of spec) t i → (o : Occurrence) → Contains i.rule.args o
    → (j : Site Place) → site_of (rules_of spec) (net_of t) (referred (net_of t) i.node o) ≡ Some j → IsLess (key (rules_of spec) plans t j) (key (rules_of spec) plans t i)
keys_fall spec plans t root ranges valid fits = keys.argument_less spec ranges plans (valid_timed (rules_of spec) plans valid) t root fits

pub from_scratch_values : (spec : Spec) (plans : Plans) (t : Term) (root : ℕ) → AreInRange (rules_of spec) → AreValid (rules_of spec) plans → Fits spec t root
    → (a : Reference Place) → value_in spec t a ≡ leaf_or ((net_of t).label a.node) (site_value spec (net_of t) (value_in spec t) (site_of (rules_of spec) (net_of t) a))
from_scratch_values spec plans t root ranges valid fits = values.fixpoint spec ranges plans (valid_timed (rules_of spec) plans valid) t root fits

pub ranks : (spec : Spec) (plans : Plans) (t : Term) (root : ℕ) → AreInRange (rules_of spec) → AreValid (rules_of spec) plans → Fits spec t root
    → (rank : Site Place → ℕ)
    × ((a : Reference Place) (i : Site Place) → site_of (rules_of spec) (net_of t) a ≡ Some i → rank i < length (instances (rules_of spec) t))
    × ((i j : Site Place) (b : Reference Place) → site_of (rules_of spec) (net_of t) b ≡ Some j → IsLess (key (rules_of spec) plans t j) (key (rules_of spec) plans t i) → rank j < rank i)
ranks spec plans t root ranges valid fits =
    let timed = valid_timed (rules_of spec) plans valid in (
      values.rank spec ranges plans timed t root fits,
      λ a i is. values.rank_low spec ranges plans timed t root fits i a is,
      λ i j b is less. values.rank_falls spec ranges plans timed t root fits i j b is less,
    )
