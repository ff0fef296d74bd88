-- What a contract sees of plans and an evaluator.
use Rattle.std.specs.Prelude.{refl}
use Rattle.std.specs.Coded.{Coded, code_by, coded×}
use Rattle.sg_kinds.specs.Sound.{IsSound}
use Rattle.sg_kinds.specs.Specification.{rules_of}
use Rattle.sg_kinds.specs.ValidPlans.{AreValid}
use Rattle.sg_kinds.specs.declared.plans.Plans.{Plans}
use Rattle.sg_kinds.specs.declared.spec.Spec.{Spec}

-- the specification that is evaluated, with plans
pub record Attributed : Type 0 where
  pub spec : Spec
  pub plans : Plans

-- the two as a pair
abbrev pub attributed_code : Coded Spec → Coded Plans → Coded Attributed
attributed_code a b =
    code_by (Spec × Plans) (coded× a b) (λ l. (l.spec, l.plans)) (λ p. record { spec = p.0; plans = p.1 }) (λ _. refl)

-- the specification is sound, and the plans are valid for it
pub record IsAttributed (a : Attributed) : Type 0 where
  pub sound : IsSound a.spec
  pub valid : AreValid (rules_of a.spec) a.plans
