-- The rows of names and shapes in their order, before and after the row of completions.
use Rattle.std.specs.Prelude.{List, Option}
use Rattle.sg_kinds.specs.declared.fault.SpecFault.{SpecFault}
use Rattle.sg_ast.specs.Declarations.{Decl}
use Rattle.sg_ast.specs.FirstFault.{or_else}
use Rattle.sg_names.specs.declared.table.Table.{Table}
use Rattle.sg_names.specs.UnknownName.{unknown_name}
use Rattle.sg_names.specs.TwiceBound.{twice_bound}
use Rattle.sg_names.specs.Arity.{arity}
use Rattle.sg_names.specs.Shapes.{result_count, root_count, list_shape, optional_shape, root_inherits}

-- the rows before that of completions
abbrev pub shape_rows : Table → List Decl → Option SpecFault
shape_rows t ds = or_else (unknown_name t ds) (or_else (result_count t)
    (or_else (root_count ds) (or_else (list_shape t ds) (optional_shape t ds))))

-- the rows after it
abbrev pub binding_rows : Table → List Decl → Option SpecFault
binding_rows t ds = or_else (root_inherits t ds) (or_else (twice_bound t ds) (arity t ds))
