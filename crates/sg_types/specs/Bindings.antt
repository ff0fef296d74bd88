-- What names stand for in an expression: a place among its bindings, counted from 0, and its type.
use Rattle.std.specs.Prelude.{ℕ, ◌+◌, ◌-◌, Bool, true, false, ◌&&◌, List, [], length, take, count_by, nat_eq, Option, Some, None, option_map, option_and_then, unwrap_or}
use Rattle.std.specs.List.{position}
use Rattle.sg_kinds.specs.Values.{Bytes}
use Rattle.sg_kinds.specs.declared.spec.Occurrence.{Occurrence}
use Rattle.sg_kinds.specs.Specification.{phylum_of, attrs_of}
use Rattle.sg_kinds.specs.Dependencies.{phylum_there}
use Rattle.sg_kinds.specs.declared.spec.Attr.{Attr}
use Rattle.sg_kinds.specs.Typing.{slot_type, attr_types}
use Rattle.sg_ast.specs.FirstFault.{or_else}
use Rattle.sg_ast.specs.declared.name.Reference.{Reference}
use Rattle.sg_ast.specs.declared.name.Remote.{Remote}
use Rattle.sg_ast.specs.declared.decl.Part.{Part}
use Rattle.sg_ast.specs.declared.decl.Part.TheVariants as part
use Rattle.sg_names.specs.declared.table.Table.{Table}
use Rattle.sg_names.specs.declared.table.Operand.{Operand}
use Rattle.sg_names.specs.Lookups.{far_slot, local, reference, operand}
use Rattle.sg_types.specs.declared.scope.Variable.{Variable}
use Rattle.sg_names.specs.Drafted.{drafted}
use Rattle.sg_types.specs.Scopes.{found}

-- where an expression stands: in an equation of an operator, whose arguments are these occurrences; in an input
-- production; elsewhere, where no reference means anything
pub data Owner : Type 0 where
  OfEquation : ℕ → List Occurrence → Owner
  OfProduction : Bytes → List Part → Owner
  OfNothing : Owner

-- the attributes at an occurrence of an operator
abbrev pub attrs_there : Table → ℕ → ℕ → List Attr
attrs_there t op at = unwrap_or (option_map (attrs_of t.phyla) (phylum_there t.ops op at)) []

-- a slot of an occurrence among the arguments of an equation
abbrev pub is_at : ℕ → ℕ → Occurrence → Bool
is_at at slot o = nat_eq at o.at && nat_eq slot o.slot

abbrev pub argument : Table → ℕ → List Occurrence → ℕ → ℕ → Option (ℕ × Option ℕ)
argument t op args at slot = option_map (λ k. (k, slot_type (drafted t) op at slot)) (position (is_at at slot) args)

-- the slot of a local, which stands behind the attributes of the left side
abbrev pub own_slots : Table → ℕ → ℕ
own_slots t op = length (attr_types (drafted t) (phylum_of t.ops op))

abbrev pub local_slot : Table → ℕ → Bytes → Option ℕ
local_slot t op n = option_map (λ k. own_slots t op + k) (local t op n)

-- how many bindings stand before the first variable: the arguments, or the symbols that are no literals
abbrev pub is_bound : Part → Bool
is_bound (part.Named n) = true
is_bound (part.Literal s) = false

abbrev pub outside : Owner → ℕ
outside (OfEquation op args) = length args
outside (OfProduction left parts) = count_by is_bound parts
outside OfNothing = 0

-- a symbol of an input production, by its place counted from 1
abbrev pub symbol_there : List Part → Operand → ℕ × Option ℕ
symbol_there parts o = (count_by is_bound (take (o.at - 1) parts), Some o.of)

abbrev pub reference_at : Table → Owner → Reference → Option (ℕ × Option ℕ)
reference_at t (OfEquation op args) r = option_and_then (λ (o : Occurrence). argument t op args o.at o.slot)
    (reference t op r)
reference_at t (OfProduction left parts) r = option_map (symbol_there parts) (operand t left parts r)
reference_at t OfNothing r = None

-- an attribute of an enclosing node: the far attribute of the left side
abbrev pub remote_at : Table → Owner → Remote → Option (ℕ × Option ℕ)
remote_at t (OfEquation op args) r = option_and_then (argument t op args 0) (far_slot t op r)
remote_at t w r = None

-- a bare name: a local of the operator, else a variable
abbrev pub local_at : Table → Owner → Bytes → Option (ℕ × Option ℕ)
local_at t (OfEquation op args) n = option_and_then (argument t op args 0) (local_slot t op n)
local_at t (OfProduction left parts) n = None
local_at t OfNothing n = None

abbrev pub behind : ℕ → ℕ × Option ℕ → ℕ × Option ℕ
behind first x = (first + x.0, x.1)

abbrev pub variable_at : Table → Owner → List Variable → Bytes → Option (ℕ × Option ℕ)
variable_at t w vs n = or_else (local_at t w n) (option_map (behind (outside w)) (found vs n))

-- its type, and its place, which is 0 where the name means nothing
abbrev pub type_there : Option (ℕ × Option ℕ) → Option ℕ
type_there None = None
type_there (Some x) = x.1

abbrev pub place_there : Option (ℕ × Option ℕ) → ℕ
place_there None = 0
place_there (Some x) = x.0
