-- Whose the expressions of a record are.
use Rattle.std.specs.Prelude.{◌≢◌, All}
use Rattle.sg_kinds.specs.declared.spec.Function.{Function}
use Rattle.sg_kinds.specs.declared.spec.Production.{Production}
use Rattle.sg_kinds.specs.declared.spec.Rule.{Rule}
use Rattle.sg_kinds.specs.declared.spec.Spec.{Spec}
use Rattle.sg_kinds.specs.declared.spec.Transform.{Transform}

-- no equation has the expression of a function, a transformation or an input production
pub record HasOwnExprs (spec : Spec) : Type 0 where
  pub functions : All (λ (r : Rule). All (λ (f : Function). r.expr ≢ f.body) spec.functions) spec.rules
  pub transforms : All (λ (r : Rule). All (λ (x : Transform). r.expr ≢ x.expr) spec.transforms) spec.rules
  pub productions : All (λ (r : Rule). All (λ (s : Production). r.expr ≢ s.expr) spec.productions) spec.rules
