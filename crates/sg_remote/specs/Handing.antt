-- The equations by which far attributes are handed down: one for each far attribute of each argument of each operator.
use Rattle.std.specs.Prelude.{ℕ, suc, if◌then◌else◌, List, [], ◌∷◌, ◌++◌, length, flat_map, Option, Some, None, option_and_then}
use Rattle.sg_kinds.specs.Dependencies.{occurrence}
use Rattle.sg_kinds.specs.Far.{is_far, source_slot}
use Rattle.sg_kinds.specs.Instances.{below}
use Rattle.sg_kinds.specs.Specification.{attrs_of, args_of, phylum_of}
use Rattle.sg_kinds.specs.declared.spec.Attr.{Attr}
use Rattle.sg_kinds.specs.declared.spec.Occurrence.{Occurrence}
use Rattle.sg_kinds.specs.declared.spec.Rule.{Rule}
use Rattle.sg_names.specs.declared.table.Table.{Table}

-- what hands a far attribute of an argument down, a slot of the left side; none for an attribute that is written
abbrev pub source : Table → ℕ → Attr → Option ℕ
source t op a = if is_far a then option_and_then (λ p. source_slot t.phyla p a.far) (phylum_of t.ops op) else None

-- its expression, e, is that which names its one argument
abbrev pub rule : ℕ → ℕ → Occurrence → ℕ → Rule
rule e op target s = record { op = op; target = target; args = occurrence 0 s ∷ []; expr = e }

abbrev pub handed_by : ℕ → ℕ → Occurrence → Option ℕ → List Rule
handed_by e op target None = []
handed_by e op target (Some s) = rule e op target s ∷ []

-- the slots from one on, and the arguments from one on, of an operator
abbrev pub slot_rules : Table → ℕ → ℕ → ℕ → ℕ → List Attr → List Rule
slot_rules t e op at slot [] = []
slot_rules t e op at slot (a ∷ rs) =
    handed_by e op (occurrence at slot) (source t op a) ++ slot_rules t e op at (suc slot) rs

abbrev pub argument_rules : Table → ℕ → ℕ → ℕ → List ℕ → List Rule
argument_rules t e op k [] = []
argument_rules t e op k (q ∷ qs) =
    slot_rules t e op (suc k) 0 (attrs_of t.phyla q) ++ argument_rules t e op (suc k) qs

abbrev pub operator_rules : Table → ℕ → ℕ → List Rule
operator_rules t e op = argument_rules t e op 0 (args_of t.ops op)

abbrev pub handing : Table → ℕ → List Rule
handing t e = flat_map (operator_rules t e) (below (length t.ops))
