-- What is kept of declarations, and the first of the faults of types.
use Rattle.std.specs.Prelude.{List, [], ◌∷◌, Option, option_map}
use Rattle.sg_kinds.specs.declared.fault.SpecFault.{SpecFault}
use Rattle.sg_kinds.specs.declared.fault.SpecFault.TheVariants.{Mismatch, ShownType}
use Rattle.sg_ast.specs.Declarations.{Decl}
use Rattle.sg_ast.specs.FirstFault.{first_of}
use Rattle.sg_names.specs.declared.table.Table.{Table}
use Rattle.sg_typing.specs.declared.checking.Typed.{Typed}
use Rattle.sg_typing.specs.Bodies.{exprs_in, patterns_in, first_mismatch}
use Rattle.sg_typing.specs.ShownTypes.{first_hidden}

-- the expressions and patterns of the record
abbrev pub typed_of : Table → List Decl → Typed
typed_of t ds = record { exprs = exprs_in t ds; patterns = patterns_in t ds }

-- a mismatch, or else what a scheme cannot show
abbrev pub first_fault : Table → List Decl → Option SpecFault
first_fault t ds = first_of (option_map Mismatch (first_mismatch t ds) ∷ option_map ShownType (first_hidden t ds) ∷ [])
