-- A call or an operator pattern over another number of parts than declared.
use Rattle.std.specs.Prelude.{ℕ, if◌then◌else◌, nat_eq, length, List, Option, Some, None, option_and_then}
use Rattle.sg_kinds.specs.Specification.{args_of}
use Rattle.sg_kinds.specs.declared.fault.SpecFault.{SpecFault}
use Rattle.sg_kinds.specs.declared.fault.SpecFault.TheVariants as fault
use Rattle.sg_ast.specs.declared.name.Name.{Name}
use Rattle.sg_ast.specs.Declarations.{Decl}
use Rattle.sg_ast.specs.FirstFault.{first}
use Rattle.sg_names.specs.declared.table.Table.{Table}
use Rattle.sg_names.specs.Lookups.{callable, params_of}
use Rattle.sg_names.specs.Names.{op_named}
use Rattle.sg_names.specs.Uses.{Use, Calls, Matches, uses}

abbrev pub unless_many : ℕ → ℕ → Name → Option SpecFault
unless_many declared parts n = if nat_eq declared parts then None else Some (fault.Arity n.place n.text)

abbrev pub arity_at : Table → Use → Option SpecFault
arity_at t (Calls n parts) = option_and_then (λ c. unless_many (length (params_of t c)) parts n) (callable t n.text)
arity_at t (Matches n parts) = option_and_then (λ op. unless_many (length (args_of t.ops op)) parts n)
    (op_named t.ops n.text)
arity_at t u = None

unfoldable pub arity : Table → List Decl → Option SpecFault
arity t ds = first (arity_at t) (uses t ds)
