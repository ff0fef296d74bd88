-- The from-scratch value of an instance.
use Rattle.std.specs.Prelude.{ℕ, zero, suc, map, length, Option, Some, None}
use Rattle.sg_kinds.specs.Values.{Value, Fault}
use Rattle.sg_kinds.specs.Terms.{Term}
use Rattle.sg_kinds.specs.Specification.{Spec, rules_of}
use Rattle.sg_kinds.specs.Places.{Place}
use Rattle.sg_kinds.specs.Nets.{Net, Reference, NodeLabel, Operation, Holding, Missing, net_of}
use Rattle.sg_kinds.specs.Instances.{Site, site_of, args_at, instances}
use Rattle.sg_kinds.specs.Outcome.{outcome}
use Rattle.sg_kinds.specs.declared.marks.FaultKind.TheVariants.{Fuel}

-- a leaf's own value, else another one
abbrev pub leaf_or : NodeLabel → Value → Value
leaf_or (Holding p v) w = v
leaf_or (Operation op) w = w
leaf_or Missing w = w

-- the outcome of an equation on values of its arguments
abbrev pub site_value : {N : Type 0} → Spec → Net N → (Reference N → Value) → Option (Site N) → Value
site_value spec net values None = Fault Fuel
site_value spec net values (Some i) = outcome spec i.rule (map values (args_at net i))

-- the value by a chain of at most n equations, and `fuel` where there is a longer one
abbrev pub scratch : {N : Type 0} → Spec → Net N → ℕ → Reference N → Value
scratch spec net zero a = leaf_or (net.label a.node) (Fault Fuel)
scratch spec net (suc n) a = leaf_or (net.label a.node)
    (site_value spec net (scratch spec net n) (site_of (rules_of spec) net a))

-- no chain is longer than there are instances
abbrev pub value_in : Spec → Term → Reference Place → Value
value_in spec t a = scratch spec (net_of t) (length (instances (rules_of spec) t)) a
