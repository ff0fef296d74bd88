-- Every outcome is in the limits of values, and no outcome has more fuel than was given.
use Rattle.std.specs.Prelude.{◌≡◌, refl, ℕ, zero, suc, Bool, true, false, cond, List}
use Rattle.sg_kinds.specs.Values.{Value, Fault, is_within}
use Rattle.sg_kinds.specs.Expressions.{Expr}
use Rattle.sg_kinds.specs.Specification.{Spec}
use Rattle.sg_kinds.specs.Evaluation.{Reached, Gives, outcome_in, limited, step, value_within}
use Rattle.sg_kinds.specs.declared.marks.FaultKind.TheVariants.{Size}

limited_is : (r : Reached) → is_within (outcome_in (limited r)) ≡ true
limited_is (Gives v left) = by (is_within v) refl
  where
    by : (b : Bool) → is_within v ≡ b → is_within (cond b v (Fault Size)) ≡ true
    by true e = e
    by false e = refl

pub outcome_within : (spec : Spec) (room : ℕ) (e : Expr) (env : List Value) (left : ℕ) → is_within (outcome_in (value_within spec room e env left)) ≡ true
outcome_within spec zero e env zero = refl
outcome_within spec (suc room) e env zero = refl
outcome_within spec zero e env (suc left) = refl
outcome_within spec (suc room) e env (suc left) = limited_is (step spec (value_within spec room) e env left)
