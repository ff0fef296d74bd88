-- A parameter, a name of `let` or of a pattern that is bound where a variable of that name is visible.
use Rattle.std.specs.Prelude.{Bool, if◌then◌else◌, List, Option, Some, None}
use Rattle.sg_kinds.specs.declared.fault.SpecFault.{SpecFault}
use Rattle.sg_kinds.specs.declared.fault.SpecFault.TheVariants as fault
use Rattle.sg_ast.specs.declared.name.Name.{Name}
use Rattle.sg_ast.specs.Declarations.{Decl}
use Rattle.sg_ast.specs.FirstFault.{first}
use Rattle.sg_names.specs.declared.table.Table.{Table}
use Rattle.sg_names.specs.Uses.{Use, Binds, is_visible, uses}

abbrev pub twice_if : Bool → Name → Option SpecFault
twice_if visible n = if visible then Some (fault.TwiceBound n.place n.text) else None

abbrev pub twice_at : Use → Option SpecFault
twice_at (Binds scope n) = twice_if (is_visible scope n.text) n
twice_at u = None

unfoldable pub twice_bound : Table → List Decl → Option SpecFault
twice_bound t ds = first twice_at (uses t ds)
