-- When plans are valid for attribute equations.
use Rattle.std.specs.Prelude.{◌≡◌, ◌≢◌, ◌↔◌, ℕ, suc, ◌+◌, ◌-◌, ◌/◌, ◌<◌, ◌≤◌, false, max, map, List, length, AllPairs, Contains, slice_get, MatchOption}
use Rattle.sg_kinds.specs.Specification.{Rules, Occurrence, attrs_of, args_of, locals_of, phylum_of, has_shape, is_leaf_shape}
use Rattle.sg_kinds.specs.Instances.{below}
use Rattle.sg_kinds.specs.Layers.{IsLayering, Extended}
use Rattle.sg_kinds.specs.Visits.{Plans, row_at, greatest, attrs_before, position_in, visit_count, belongs, seat}
use Rattle.sg_kinds.specs.declared.plans.PlanStep.{PlanStep}
use Rattle.sg_kinds.specs.declared.plans.PlanStep.TheVariants.{Eval, Visit}

-- layers 2m and 2m - 1 are one visit, and the last taken come first
abbrev pub pair_of : ℕ → ℕ
pair_of l = (l + 1) / 2

abbrev pub pairs : Rules → ℕ → (ℕ → ℕ) → ℕ
pairs rules X layer = max 1 (greatest (map (λ a. pair_of (layer a)) (below (length (attrs_of rules.phyla X)))))

-- the visit of an attribute by its layer
abbrev pub visit_of : Rules → ℕ → (ℕ → ℕ) → ℕ → ℕ
visit_of rules X layer a = suc (pairs rules X layer) - pair_of (layer a)

-- each attribute of X has its visit
pub record AreVisits (rules : Rules) (X : ℕ) (layer : ℕ → ℕ) (plans : Plans) : Type 0 where
  pub layers : IsLayering rules X layer
  pub row : row_at plans.visits X ≡ map (visit_of rules X layer) (below (length (attrs_of rules.phyla X)))

-- how many vertices an operator has
abbrev pub vertices : Rules → ℕ → ℕ
vertices rules p = attrs_before rules p (suc (length (args_of rules.ops p))) + length (locals_of rules.ops p)

-- one position for each vertex, all different, that agree with the extended dependencies
pub record ArePositions (rules : Rules) (p : ℕ) (layer : ℕ → ℕ → ℕ) (plans : Plans) : Type 0 where
  pub count : length (row_at plans.places p) ≡ vertices rules p
  pub different : AllPairs ◌≢◌ (row_at plans.places p)
  pub agree : (u v : Occurrence) → Extended rules layer p u v
      → position_in rules plans p u < position_in rules plans p v

-- a step of p: one of its equations, at its target's position, or a visit of an argument that is no leaf, at its seat
abbrev pub IsStepAt : Rules → Plans → ℕ → PlanStep → ℕ → Type 0
IsStepAt rules plans p (Eval r) q = MatchOption (slice_get rules.rules r) ⊥ (λ x. (x.op ≡ p)
    × (q ≡ position_in rules plans p x.target))
IsStepAt rules plans p (Visit k j) q = MatchOption (slice_get (args_of rules.ops p) k) ⊥
    (λ X. (has_shape rules.phyla is_leaf_shape X ≡ false) × (1 ≤ j) × (j ≤ visit_count plans X)
    × (q ≡ seat rules plans p k j))

-- what visit j of p does: exactly the steps whose positions belong to it, in rising order of position
pub record AreStepsOf (rules : Rules) (plans : Plans) (p j : ℕ) (steps : List PlanStep) : Type 0 where
  pub members : (s : PlanStep) → Contains steps s ↔ ((q : ℕ) × IsStepAt rules plans p s q
      × (belongs rules plans p q ≡ j))
  pub rising : AllPairs (λ s t. (q r : ℕ) → IsStepAt rules plans p s q → IsStepAt rules plans p t r → q < r) steps

pub record AreSteps (rules : Rules) (p : ℕ) (plans : Plans) : Type 0 where
  pub count : MatchOption (phylum_of rules.ops p) ⊥ (λ X. length (row_at plans.steps p) ≡ visit_count plans X)
  pub each : (j : ℕ) → j < length (row_at plans.steps p)
      → AreStepsOf rules plans p (suc j) (row_at (row_at plans.steps p) j)

-- a row of visits for each phylum; rows of positions and of steps for each operator
pub record HaveRows (rules : Rules) (plans : Plans) : Type 0 where
  pub visits : length plans.visits ≡ length rules.phyla
  pub places : length plans.places ≡ length rules.ops
  pub steps : length plans.steps ≡ length rules.ops

pub record AreValid (rules : Rules) (plans : Plans) : Type 0 where
  pub rows : HaveRows rules plans
  pub layer : ℕ → ℕ → ℕ
  pub visits : (X : ℕ) → X < length rules.phyla → AreVisits rules X (layer X) plans
  pub positions : (p : ℕ) → p < length rules.ops → ArePositions rules p layer plans
  pub steps : (p : ℕ) → p < length rules.ops → AreSteps rules p plans
