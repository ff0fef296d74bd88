-- What is made of all declarations.
use Rattle.std.specs.Prelude.{◌≡◌, List, Some, None, Result, Ok, Err}
use Rattle.sg_kinds.specs.declared.fault.Position.{Position}
use Rattle.sg_ast.specs.Declarations.{Decl}
use Rattle.sg_names.specs.declared.table.Table.{Table}
use Rattle.sg_typing.specs.declared.bodies.Bodies.{Bodies}
use Rattle.sg_typing.specs.Bodies.{exprs_in, patterns_in, first_mismatch}

-- their expressions and patterns, where nothing mismatches
pub record HasBodies (t : Table) (ds : List Decl) (b : Bodies) : Type 0 where
  pub exprs : b.exprs.items ≡ exprs_in t ds
  pub patterns : b.patterns.items ≡ patterns_in t ds
  pub none : first_mismatch t ds ≡ None

abbrev pub AreBodies : Table → List Decl → Result Bodies Position → Type 0
AreBodies t ds (Ok b) = HasBodies t ds b
AreBodies t ds (Err place) = first_mismatch t ds ≡ Some place
