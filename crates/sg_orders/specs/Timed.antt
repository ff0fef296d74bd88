-- Visits and positions that are valid, and the steps that they give an operator.
use Rattle.std.specs.Prelude.{◌≡◌, ℕ, suc, ◌+◌, ◌<◌, ◌≤◌, ◌^◌, List, [], length, Option, None, Some, MatchOption, slice_index_or}
use Rattle.sg_kinds.specs.declared.spec.Rules.{Rules}
use Rattle.sg_kinds.specs.declared.plans.Plans.{Plans}
use Rattle.sg_kinds.specs.declared.plans.PlanStep.{PlanStep}
use Rattle.sg_kinds.specs.Specification.{args_of, phylum_of}
use Rattle.sg_kinds.specs.Visits.{row_at, visit_count, after_all}
use Rattle.sg_kinds.specs.ValidPlans.{AreVisits, ArePositions, IsStepAt, AreStepsOf}
use Rattle.sg_dependencies.specs.Frames.{frame_of}
use Rattle.sg_dependencies.specs.declared.frame.Frame.{Frame}
use Rattle.sg_dependencies.specs.Proper.{AreProper}
use Rattle.sg_dependencies.specs.Vertices.{AreInRange}
pub use Rattle.sg_orders.specs.declared.timing.Timing.{Timing}

-- plans with these visits and positions alone
abbrev pub timed : Timing → Plans
timed timing = record { visits = timing.visits; places = timing.places; steps = [] }

pub record AreTimed (rules : Rules) (plans : Plans) : Type 0 where
  pub layer : ℕ → ℕ → ℕ
  pub visits : (X : ℕ) → X < length rules.phyla → AreVisits rules X (layer X) plans
  pub positions : (p : ℕ) → p < length rules.ops → ArePositions rules p layer plans

-- valid visits and positions, a row for each phylum and operator
pub record IsTiming (rules : Rules) (timing : Timing) : Type 0 where
  pub are : AreTimed rules (timed timing)
  pub visits : length timing.visits ≡ length rules.phyla
  pub places : length timing.places ≡ length rules.ops

-- what the steps of p are found from
pub record IsScene (rules : Rules) (timing : Timing) (frame : Frame) (p end : ℕ) : Type 0 where
  pub range : AreInRange rules
  pub proper : AreProper rules
  pub timing_is : IsTiming rules timing
  pub there : p < length rules.ops
  pub frame_is : frame ≡ frame_of rules p
  pub end_is : end ≡ after_all (timed timing) p
  pub end_low : end ≤ 2 ^ 32

-- what each visit of p does
pub record AreStepRows (rules : Rules) (plans : Plans) (p : ℕ) (rows : List (List PlanStep)) : Type 0 where
  pub count : MatchOption (phylum_of rules.ops p) ⊥ (λ X. length rows ≡ visit_count plans X)
  pub each : (j : ℕ) → j < length rows → AreStepsOf rules plans p (suc j) (row_at rows j)

-- a table of steps by their positions that has all steps of p of some kind
pub record IsFilled (rules : Rules) (plans : Plans) (p : ℕ) (kind : PlanStep
    → Type 0) (table : List (Option PlanStep)) : Type 0 where
  pub size : length table ≡ after_all plans p + length (args_of rules.ops p)
  pub sound : (q : ℕ) (s : PlanStep) → slice_index_or table q None ≡ Some s → IsStepAt rules plans p s q
  pub whole : (s : PlanStep) (q : ℕ) → kind s → IsStepAt rules plans p s q → slice_index_or table q None ≡ Some s
