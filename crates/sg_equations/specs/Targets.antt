-- What equations define.
use Rattle.std.specs.Prelude.{ℕ, ◌^◌, ◌<◌, List, [], ◌∷◌, length, flat_map, Option, Some, None, option_map}
use Rattle.sg_kinds.specs.Typing.{slots_there}
use Rattle.sg_kinds.specs.declared.spec.Occurrence.{Occurrence}
use Rattle.sg_ast.specs.Parts.{target_place}
use Rattle.sg_ast.specs.declared.decl.Target.{Target}
use Rattle.sg_ast.specs.declared.decl.Target.TheVariants as written
use Rattle.sg_ast.specs.Declarations.{Decl, Equation, Equations}
use Rattle.sg_names.specs.Drafted.{drafted}
use Rattle.sg_names.specs.declared.table.Table.{Table}
use Rattle.sg_names.specs.Lookups.{operator_at, reference}
use Rattle.sg_types.specs.Bindings.{local_slot}
use Rattle.sg_equations.specs.declared.targets.Defined.{Defined}

-- operators and the slots of each left side are numbers of 32 bits
pub record IsNarrow (t : Table) : Type 0 where
  pub ops : length t.ops < 2 ^ 32
  pub slots : (op : ℕ) → length (slots_there (drafted t) op 0) < 2 ^ 32

abbrev pub own : ℕ → Occurrence
own slot = record { at = 0; slot = slot }

abbrev pub target_there : Table → ℕ → Target → Option Occurrence
target_there t op (written.Attribute r) = reference t op r
target_there t op (written.Local n) = option_map own (local_slot t op n.text)

-- what an equation defines; nothing where its target has no meaning
abbrev pub defined_as : ℕ → Target → Option Occurrence → List Defined
defined_as op target None = []
defined_as op target (Some o) = record { op = op; target = o; place = target_place target } ∷ []

abbrev pub defined_by : Table → ℕ → Equation → List Defined
defined_by t op e = defined_as op e.target (target_there t op e.target)

-- what the equations of a declaration define, and those of all declarations
abbrev pub defined_under : Table → List Equation → Option ℕ → List Defined
defined_under t es None = []
defined_under t es (Some op) = flat_map (defined_by t op) es

abbrev pub defined_at : Table → Decl → List Defined
defined_at t (Equations p op locals es) = defined_under t es (operator_at t p op)
defined_at t d = []

abbrev pub defined_in : Table → List Decl → List Defined
defined_in t ds = flat_map (defined_at t) ds
