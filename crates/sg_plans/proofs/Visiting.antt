-- The laws of visits and steps, as they are stated.
use Rattle.std.specs.Prelude.{◌≡◌, ℕ, ◌+◌, ◌-◌, ◌<◌, ◌≤◌, ◌⊎◌, ◌∷◌, ◌++◌, length, Some, slice_get, Contains}
use Rattle.std.proofs.Common.{refl, sym, ap, ◌∙◌, subst, arith, inl, inr}
use Rattle.std.proofs.lemmas.Bool.{cases_lt}
use Rattle.std.proofs.lemmas.Option.{same_Some, slice_get_within}
use Rattle.sg_kinds.specs.declared.plans.Plans.{Plans}
use Rattle.sg_kinds.specs.declared.plans.PlanStep.{PlanStep}
use Rattle.sg_kinds.specs.declared.plans.PlanStep.TheVariants.{Eval, Visit}
use Rattle.sg_kinds.specs.declared.spec.Spec.{Spec}
use Rattle.sg_kinds.specs.declared.spec.Rules.{Rules}
use Rattle.sg_kinds.specs.declared.spec.Rule.{Rule}
use Rattle.sg_kinds.specs.declared.spec.Occurrence.{Occurrence}
use Rattle.sg_kinds.specs.Terms.{Term}
use Rattle.sg_kinds.specs.Specification.{rules_of}
use Rattle.sg_kinds.specs.Places.{Place}
use Rattle.sg_kinds.specs.Nets.{Reference, referred, net_of}
use Rattle.sg_kinds.specs.Instances.{Site, site_of}
use Rattle.sg_orders.specs.Keys.{operator_in}
use Rattle.sg_kinds.specs.Visits.{row_at, visit_count}
use Rattle.sg_orders.specs.LiveSites.{IsLive}
use Rattle.sg_plans.specs.Planned.{IsPlanned}
use Rattle.sg_plans.specs.Segments.{HasVisit, IsGivenBy, IsNodeAt, IsOfVisit, IsTaken, position_at, position_of, visit_at}
use Rattle.sg_plans.specs.Stepping.{IsGivenBefore, IsOfStep, IsReady, steps_of}
use Rattle.sg_plans.proofs.Bearers.{ranges}
use Rattle.sg_plans.proofs.Nodes.{node_at, node_on_way}
use Rattle.sg_plans.proofs.Stepped as steps
use Rattle.sg_plans.proofs.Ways as ways

pub visit_some : (rules : Rules) (plans : Plans) (t : Term) (u w : Place) (i : Site Place) → IsLive rules t i → i.node ≡ w ++ u → (j : ℕ) × IsOfVisit rules plans t u j i
visit_some rules plans t u w i live below = (visit_at rules plans t w u (position_of rules plans i), record { live = live; way = w; below = below; visit = refl })

-- what the steps give, one after another
pub gives_nothing : (rules : Rules) (plans : Plans) (t : Term) (u : Place) (j : ℕ) (a : Reference Place) → IsGivenBefore rules plans t u j 0 a → ⊥
gives_nothing rules plans t u j a is = let l = is.low in omega (arith, l)

pub gives_next : (rules : Rules) (plans : Plans) (t : Term) (u : Place) (j m : ℕ) (s : PlanStep) → slice_get (steps_of plans (operator_in t u) j) m ≡ Some s → (a : Reference Place) → IsGivenBefore rules plans t u j (m + 1) a
    → IsGivenBefore rules plans t u j m a ⊎ ((i : Site Place) × (site_of rules (net_of t) a ≡ Some i) × IsOfStep rules plans t u s i)
gives_next rules plans t u j m s at a is = elim (cases_lt is.place m) [
  | inl low ↦ inl (record { place = is.place; low = low; step = is.step; at = is.at; site = is.site; found = is.found; of_step = is.of_step })
  | inr past ↦
      let l = is.low in
      let same : is.place ≡ m = omega (arith, l, past) in
      let step : is.step ≡ s = same_Some is.step s (sym is.at ∙ ap (slice_get (steps_of plans (operator_in t u) j)) same ∙ at) in
      inr (is.site, is.found, subst (λ x. IsOfStep rules plans t u x is.site) step is.of_step)
]

module _ (spec : Spec) (plans : Plans) (t : Term) (planned : IsPlanned spec plans t) where
  abbrev rules : Rules
  rules = rules_of spec

  pub visit_there : (u : Place) (j : ℕ) (i : Site Place) → IsOfVisit rules plans t u j i → HasVisit rules plans t u j
  visit_there u j i of =
      let is = steps.visited_node spec plans t planned u j i of in
      let n = node_at spec t planned.root planned.fits u is in
      let q = position_at rules plans t of.way u (position_of rules plans i) in
      let range = ranges spec t planned.root planned.sound planned.fits in
      record {
        node = is;
        phylum = n.phylum;
        left = n.left;
        low = subst (λ k. 1 ≤ k) of.visit (ways.visit_low spec range plans planned.valid t planned.root planned.fits u q is);
        high = subst (λ k. k ≤ visit_count plans n.phylum) of.visit (ways.visit_high spec range plans planned.valid t planned.root planned.fits u q n.phylum is n.left);
      }

  pub visits_rise : (w u : Place) → IsNodeAt t (w ++ u) → (q r : ℕ) → q ≤ r → visit_at rules plans t w u q ≤ visit_at rules plans t w u r
  visits_rise w u is q r le =
      let range = ranges spec t planned.root planned.sound planned.fits in
      ways.visits_rise spec range plans planned.valid t planned.root planned.fits u (position_at rules plans t w u q) (position_at rules plans t w u r) (node_on_way t w u is)
      (ways.positions_rise spec range plans planned.valid t planned.root planned.fits w u q r is le)

  pub step_some : (u : Place) (j : ℕ) (i : Site Place) → IsOfVisit rules plans t u j i → (m : ℕ) × (s : PlanStep) × (slice_get (steps_of plans (operator_in t u) j) m ≡ Some s) × IsOfStep rules plans t u s i
  step_some u j i of = let found = steps.step_of spec plans t planned u j i of in (found.place, found.step, found.at, found.of_step)

  pub step_within : (u : Place) (j m : ℕ) (s : PlanStep) → HasVisit rules plans t u j → slice_get (steps_of plans (operator_in t u) j) m ≡ Some s → (i : Site Place) → IsOfStep rules plans t u s i → IsOfVisit rules plans t u j i
  step_within u j m s has at i of = steps.step_within spec plans t planned u j m s i has.node has.low at of

  pub step_once : (u : Place) (j m n : ℕ) (s r : PlanStep) → HasVisit rules plans t u j → slice_get (steps_of plans (operator_in t u) j) m ≡ Some s → slice_get (steps_of plans (operator_in t u) j) n ≡ Some r
      → (i : Site Place) → IsOfStep rules plans t u s i → IsOfStep rules plans t u r i → m ≡ n
  step_once u j m n s r has at to i of are = steps.step_alone spec plans t planned u j m n s r i has.node has.low at to of are

  pub step_equation : (u : Place) (j m r : ℕ) → HasVisit rules plans t u j → slice_get (steps_of plans (operator_in t u) j) m ≡ Some (Eval r) → (x : Rule) × (slice_get spec.rules r ≡ Some x) × (x.op ≡ operator_in t u)
  step_equation u j m r has at = steps.equation spec plans t planned u j m r has.node has.low at

  pub step_child : (u : Place) (j m k i : ℕ) → HasVisit rules plans t u j → slice_get (steps_of plans (operator_in t u) j) m ≡ Some (Visit k i) → HasVisit rules plans t (k ∷ u) i
  step_child u j m k i has at = let c = steps.child spec plans t planned u j m k i has.node has.low at in record { node = c.is_node; phylum = c.phylum; left = c.left; low = c.low; high = c.high }

  pub ready_argument : (u : Place) (j m r : ℕ) → HasVisit rules plans t u j → slice_get (steps_of plans (operator_in t u) j) m ≡ Some (Eval r) → (x : Rule) (o : Occurrence) → slice_get spec.rules r ≡ Some x → Contains x.args o → IsReady rules plans t u j m (referred (net_of t) u o)
  ready_argument u j m r has at x o rule names = steps.ready_argument spec plans t planned u j m r x o has.node has.low at rule names

  pub ready_taken : (u : Place) (j m k i : ℕ) → HasVisit rules plans t u j → slice_get (steps_of plans (operator_in t u) j) m ≡ Some (Visit k i) → (a : Reference Place) → IsTaken rules plans t (k ∷ u) i a → IsReady rules plans t u j m a
  ready_taken u j m k i has at a is = steps.ready_taken spec plans t planned u j m k i a has.node has.low at is

  pub ready_given : (u : Place) (j m k i h : ℕ) → HasVisit rules plans t u j → slice_get (steps_of plans (operator_in t u) j) m ≡ Some (Visit k i) → h < i → (a : Reference Place) → IsGivenBy rules plans t (k ∷ u) h a → IsReady rules plans t u j m a
  ready_given u j m k i h has at less a given = steps.ready_given spec plans t planned u j m k h i a has.node has.low at less given

  -- what the steps give together
  pub gives_all : (u : Place) (j : ℕ) (a : Reference Place) → IsGivenBy rules plans t u j a → IsGivenBefore rules plans t u j (length (steps_of plans (operator_in t u) j)) a
  gives_all u j a given =
      let found = steps.step_of spec plans t planned u j given.site given.of_visit in
      record { place = found.place; low = slice_get_within (steps_of plans (operator_in t u) j) found.place found.step found.at; step = found.step; at = found.at; site = given.site; found = given.found; of_step = found.of_step }

  pub gives_only : (u : Place) (j m : ℕ) → HasVisit rules plans t u j → (a : Reference Place) → IsGivenBefore rules plans t u j m a → IsGivenBy rules plans t u j a
  gives_only u j m has a is = record { site = is.site; found = is.found; of_visit = step_within u j is.place is.step has is.at is.site is.of_step }

  pub step_row : (u : Place) (j : ℕ) → HasVisit rules plans t u j → j - 1 < length (row_at plans.steps (operator_in t u))
  step_row u j has =
      let long = steps.row_long spec plans t planned u has.node in
      let n = node_at spec t planned.root planned.fits u has.node in
      let same = ap (visit_count plans) (same_Some n.phylum has.phylum (sym n.left ∙ has.left)) in
      let low = has.low in
      let high = has.high in
      omega (arith, long, same, low, high)
