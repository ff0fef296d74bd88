-- What positions of vertices and of steps say of each other.
use Rattle.std.specs.Prelude.{◌≡◌, ℕ, ◌+◌, ◌<◌, length}
use Rattle.sg_kinds.specs.declared.plans.Plans.{Plans}
use Rattle.sg_kinds.specs.declared.plans.PlanStep.{PlanStep}
use Rattle.sg_kinds.specs.declared.spec.Rules.{Rules}
use Rattle.sg_kinds.specs.declared.spec.Occurrence.{Occurrence}
use Rattle.sg_kinds.specs.Specification.{args_of}
use Rattle.sg_kinds.specs.Visits.{position_in, after_all}
use Rattle.sg_kinds.specs.ValidPlans.{IsStepAt}
use Rattle.sg_dependencies.specs.Vertices.{IsVertex}

pub record HasStepFacts (rules : Rules) (plans : Plans) (p : ℕ) : Type 0 where
  -- each vertex stands before the end, and no two at one position
  pub position_low : (o : Occurrence) → IsVertex rules p o → position_in rules plans p o < after_all plans p
  pub one_vertex : (u v : Occurrence) → IsVertex rules p u → IsVertex rules p v
      → position_in rules plans p u ≡ position_in rules plans p v → u ≡ v
  -- each step stands at one position, and no two at the same
  pub one_position : (s : PlanStep) (q r : ℕ) → IsStepAt rules plans p s q → IsStepAt rules plans p s r → q ≡ r
  pub one_step : (s t : PlanStep) (q : ℕ) → IsStepAt rules plans p s q → IsStepAt rules plans p t q → s ≡ t
  -- behind the vertices there is a place for each argument, and no step is behind these
  pub step_low : (s : PlanStep) (q : ℕ) → IsStepAt rules plans p s q
      → q < after_all plans p + length (args_of rules.ops p)
