-- Terms that plans can attribute.
use Rattle.std.specs.Prelude.{ℕ}
use Rattle.sg_kinds.specs.Terms.{Term}
use Rattle.sg_kinds.specs.Fits.{Fits}
use Rattle.sg_kinds.specs.Sound.{IsSound}
use Rattle.sg_kinds.specs.declared.spec.Spec.{Spec}
use Rattle.sg_kinds.specs.Specification.{rules_of}
use Rattle.sg_kinds.specs.ValidPlans.{AreValid}
use Rattle.sg_kinds.specs.declared.plans.Plans.{Plans}

-- a fitting term of a sound specification, and valid plans for it
pub record IsPlanned (spec : Spec) (plans : Plans) (t : Term) : Type 0 where
  pub sound : IsSound spec
  pub valid : AreValid (rules_of spec) plans
  pub root : ℕ
  pub fits : Fits spec t root
