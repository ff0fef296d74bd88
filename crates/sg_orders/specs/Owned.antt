-- The equations of an operator.
use Rattle.std.specs.Prelude.{◌≡◌, ℕ, ◌<◌, Bool, false, List, [], length, filter, nat_eq, slice_get, slice_index_or, option_map, unwrap_or}
use Rattle.sg_kinds.specs.declared.spec.Rules.{Rules}
use Rattle.sg_kinds.specs.declared.spec.Rule.{Rule}
use Rattle.sg_kinds.specs.Instances.{below}

-- whether a place has an equation of p
abbrev pub is_own : Rules → ℕ → ℕ → Bool
is_own rules p r = unwrap_or (option_map (λ (x : Rule). nat_eq x.op p) (slice_get rules.rules r)) false

abbrev pub own_of : Rules → ℕ → List ℕ
own_of rules p = filter (is_own rules p) (below (length rules.rules))

-- each operator has its equations
pub record AreOwned (rules : Rules) (owned : List (List ℕ)) : Type 0 where
  pub count : length owned ≡ length rules.ops
  pub each : (p : ℕ) → p < length rules.ops → slice_index_or owned p [] ≡ own_of rules p
