-- The key of an instance: positions from the root's plan down to the plan of the node whose equation defines it.
use Rattle.std.specs.Prelude.{◌≡◌, ℕ, ◌<◌, List, [], ◌∷◌, reverse, ◌⊎◌, ⊤}
use Rattle.sg_kinds.specs.Terms.{Term}
use Rattle.sg_kinds.specs.declared.spec.Rules.{Rules}
use Rattle.sg_kinds.specs.Places.{Place, sub}
use Rattle.sg_kinds.specs.Nets.{NodeLabel, Operation, label_of}
use Rattle.sg_kinds.specs.Instances.{Site}
use Rattle.sg_kinds.specs.declared.plans.Plans.{Plans}
use Rattle.sg_kinds.specs.Visits.{belongs, seat, position_in}

-- the operator at a place of a term; a leaf has none and stands in no key
abbrev pub operation : NodeLabel → ℕ
operation (Operation op) = op
operation l = 0

abbrev pub operator_in : Term → Place → ℕ
operator_in t u = operation (label_of (sub t u))

-- the positions from position q of the node at the place up to the root's
abbrev pub key_up : Rules → Plans → Term → Place → ℕ → List ℕ
key_up rules plans t [] q = q ∷ []
key_up rules plans t (k ∷ u) q = q ∷ key_up rules plans t u
    (seat rules plans (operator_in t u) k (belongs rules plans (operator_in t (k ∷ u)) q))

abbrev pub key : Rules → Plans → Term → Site Place → List ℕ
key rules plans t i = reverse (key_up rules plans t i.node (position_in rules plans i.rule.op i.rule.target))

-- keys are compared as lists, and a proper prefix is smaller
abbrev pub IsLess : List ℕ → List ℕ → Type 0
IsLess xs [] = ⊥
IsLess [] (y ∷ ys) = ⊤
IsLess (x ∷ xs) (y ∷ ys) = (x < y) ⊎ ((x ≡ y) × IsLess xs ys)
