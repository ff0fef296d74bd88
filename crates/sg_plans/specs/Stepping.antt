-- The steps of a visit, and what is there as each begins.
use Rattle.std.specs.Prelude.{◌≡◌, ℕ, ◌-◌, ◌<◌, List, ◌∷◌, Some, slice_get}
use Rattle.sg_kinds.specs.Terms.{Term}
use Rattle.sg_kinds.specs.declared.spec.Rules.{Rules}
use Rattle.sg_kinds.specs.Places.{Place}
use Rattle.sg_kinds.specs.Nets.{Reference, net_of}
use Rattle.sg_kinds.specs.Instances.{Site, site_of}
use Rattle.sg_orders.specs.Keys.{operator_in}
use Rattle.sg_kinds.specs.declared.plans.Plans.{Plans}
use Rattle.sg_kinds.specs.Visits.{row_at}
use Rattle.sg_kinds.specs.declared.plans.PlanStep.{PlanStep}
use Rattle.sg_kinds.specs.declared.plans.PlanStep.TheVariants.{Eval, Visit}
use Rattle.sg_plans.specs.Segments.{IsOfVisit, IsGivenBy, IsTaken, IsLeafSlot}

-- the steps of an operator's visit j, counted from 1
abbrev pub steps_of : Plans → ℕ → ℕ → List PlanStep
steps_of plans op j = row_at (row_at plans.steps op) (j - 1)

-- an equation of a step of the node at u: the one that it evaluates there, or one of the child's visit
abbrev pub IsOfStep : Rules → Plans → Term → Place → PlanStep → Site Place → Type 0
IsOfStep rules plans t u (Eval r) i = (i.node ≡ u) × (slice_get rules.rules r ≡ Some i.rule)
IsOfStep rules plans t u (Visit k j) i = IsOfVisit rules plans t (k ∷ u) j i

-- what one of the first m steps of visit j of the node at u gives
pub record IsGivenBefore (rules : Rules) (plans : Plans) (t : Term) (u : Place) (j m : ℕ)
    (a : Reference Place) : Type 0 where
  pub place : ℕ
  pub low : place < m
  pub step : PlanStep
  pub at : slice_get (steps_of plans (operator_in t u) j) place ≡ Some step
  pub site : Site Place
  pub found : site_of rules (net_of t) a ≡ Some site
  pub of_step : IsOfStep rules plans t u step site

-- what is there as step m of visit j of the node at u begins: leaves' slots, what the visit takes, and what earlier
-- visits or steps gave
pub data IsReady (rules : Rules) (plans : Plans) (t : Term) (u : Place) (j m : ℕ) (a : Reference Place) : Type 0 where
  leaf : IsLeafSlot t a → IsReady rules plans t u j m a
  taken : IsTaken rules plans t u j a → IsReady rules plans t u j m a
  earlier : (i : ℕ) → i < j → IsGivenBy rules plans t u i a → IsReady rules plans t u j m a
  before : IsGivenBefore rules plans t u j m a → IsReady rules plans t u j m a
