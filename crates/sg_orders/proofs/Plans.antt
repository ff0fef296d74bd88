-- Plans that are put together for one operator after another are valid.
use Rattle.std.specs.Prelude.{◌≡◌, ℕ, ◌+◌, ◌<◌, List, [], ◌∷◌, ◌++◌, length}
use Rattle.std.proofs.Common.{sym, ap, ◌∙◌, subst, get_or, arith, length-append}
use Rattle.std.proofs.lemmas.List.{get_or_default}
use Rattle.sg_kinds.specs.declared.spec.Rules.{Rules}
use Rattle.sg_kinds.specs.declared.plans.Plans.{Plans}
use Rattle.sg_kinds.specs.declared.plans.PlanStep.{PlanStep}
use Rattle.sg_kinds.specs.ValidPlans.{AreValid}
use Rattle.sg_dependencies.specs.Frames.{frame_of, frames_of}
use Rattle.sg_dependencies.specs.declared.frame.Frame.{Frame}
use Rattle.sg_dependencies.proofs.Numbers.{frame_there, frames_count}
use Rattle.sg_orders.specs.Owned.{own_of, AreOwned}
use Rattle.sg_orders.specs.Timed.{Timing, timed, IsTiming, AreStepRows}
use Rattle.sg_orders.proofs.Pushed.{push_each, row_is}

-- the steps of the first i operators
pub record PlannedTo (rules : Rules) (timing : Timing) (steps : List (List (List PlanStep))) (i : ℕ) : Type 0 where
  pub steps_count : length steps ≡ i
  pub steps_are : (p : ℕ) → p < i → AreStepRows rules (timed timing) p (get_or steps p [])

pub planned_none : (rules : Rules) (timing : Timing) (steps : List (List (List PlanStep))) → steps ≡ [] → PlannedTo rules timing steps 0
planned_none rules timing steps no_steps = record { steps_count = ap length no_steps; steps_are = λ p low. absurd (omega (arith, low)) }

pub planned_more : (rules : Rules) (timing : Timing) (steps more : List (List (List PlanStep))) (i : ℕ) (rows : List (List PlanStep)) → PlannedTo rules timing steps i → AreStepRows rules (timed timing) i rows → more ≡ steps ++ rows ∷ [] → PlannedTo rules timing more (i + 1)
planned_more rules timing steps more i rows to are push = record {
  steps_count = ap length push ∙ length-append steps (rows ∷ []) ∙ ap (λ n. n + 1) to.steps_count;
  steps_are = push_each steps more [] i rows to.steps_count push (AreStepRows rules (timed timing)) to.steps_are are;
}

-- what is known at the next operator
pub record IsNextOperator (rules : Rules) (frame : Frame) (i : ℕ) (own : List ℕ) : Type 0 where
  pub there : i < length rules.ops
  pub own_is : own ≡ own_of rules i
  pub frame_is : frame ≡ frame_of rules i

pub next_operator : (rules : Rules) (frames : List Frame) (frame : Frame) (owned : List (List ℕ)) (row own : List ℕ) (i : ℕ) → frames ≡ frames_of rules → i < length frames → frame ≡ get_or frames i frame → AreOwned rules owned → row ≡ get_or owned i row → own ≡ row
    → IsNextOperator rules frame i own
next_operator rules frames frame owned row own i same low at are read is =
    let there : i < length rules.ops = omega (arith, low, ap length same, frames_count rules) in
    record {
      there = there;
      own_is = is ∙ read ∙ get_or_default owned i row [] (let c = are.count in omega (arith, there, c)) ∙ are.each i there;
      frame_is = at ∙ ap (λ fs. get_or fs i frame) same ∙ frame_there rules i frame there;
    }

abbrev whole : Timing → List (List (List PlanStep)) → Plans
whole timing steps = record { visits = timing.visits; places = timing.places; steps = steps }

valid_whole : (rules : Rules) (timing : Timing) (steps : List (List (List PlanStep))) → IsTiming rules timing → PlannedTo rules timing steps (length rules.ops) → AreValid rules (whole timing steps)
valid_whole rules timing steps is to = record {
  rows = record { visits = is.visits; places = is.places; steps = to.steps_count };
  layer = is.are.layer;
  visits = λ X low. let v = is.are.visits X low in record { layers = v.layers; row = v.row };
  positions = λ p low. let v = is.are.positions p low in record { count = v.count; different = v.different; agree = v.agree };
  steps = λ p low.
      let rows = subst (AreStepRows rules (timed timing) p) (sym (row_is steps p)) (to.steps_are p low) in
      record { count = rows.count; each = λ j under. let each = rows.each j under in record { members = each.members; rising = each.rising } };
}

pub valid_by : (rules : Rules) (timing : Timing) (steps : List (List (List PlanStep))) (i : ℕ) → IsTiming rules timing → PlannedTo rules timing steps i → i ≡ length rules.ops → (s : List (List (List PlanStep))) → s ≡ steps
    → AreValid rules (record { visits = timing.visits; places = timing.places; steps = s })
valid_by rules timing steps i is to end s same = subst (λ xs. AreValid rules (whole timing xs)) (sym same) (valid_whole rules timing steps is (subst (PlannedTo rules timing steps) end to))
