-- The first fault of names and shapes.
use Rattle.std.specs.Prelude.{ℕ, List, [], ◌∷◌, Option, slice_get, option_map, option_and_then}
use Rattle.sg_kinds.specs.declared.spec.Phylum.{Phylum}
use Rattle.sg_kinds.specs.declared.fault.SpecFault.{SpecFault}
use Rattle.sg_kinds.specs.declared.fault.SpecFault.TheVariants as fault
use Rattle.sg_ast.specs.Declarations.{Decl}
use Rattle.sg_ast.specs.FirstFault.{first_of}
use Rattle.sg_counts.specs.Limits.{limit}
use Rattle.sg_counts.specs.Duplicates.{duplicate}
use Rattle.sg_shapes.specs.Unfinished.{unfinished}
use Rattle.sg_names.specs.declared.table.Table.{Table}
use Rattle.sg_names.specs.Names.{names_of}
use Rattle.sg_shapes.specs.Resolved.{shape_rows, binding_rows}

-- the fault of a phylum, at its first definition
abbrev pub no_completion_at : Table → ℕ → Option SpecFault
no_completion_at t p = option_and_then (λ place. option_map (λ (x : Phylum). fault.NoCompletion place x.name)
    (slice_get t.phyla p)) (slice_get t.phylum_places p)

-- the first phylum whose completing term or placeholder is not finite, or too large or too deep
abbrev pub no_completion : Table → Option SpecFault
no_completion t = option_and_then (no_completion_at t) (unfinished t)

-- the rows in their order: from completing terms on, which are followed by the root's attributes, variables bound
-- twice and numbers of parts; from unknown names on, which are followed by results, the root's number, lists and
-- optional phyla; and before them counts over their limits and second definitions
abbrev pub completion_rows : Table → List Decl → List (Option SpecFault)
completion_rows t ds = no_completion t ∷ binding_rows t ds ∷ []

abbrev pub name_rows : Table → List Decl → List (Option SpecFault)
name_rows t ds = shape_rows t ds ∷ completion_rows t ds

abbrev pub fault_in : Table → List Decl → Option SpecFault
fault_in t ds = first_of (limit ds ∷ duplicate ds ∷ name_rows t ds)

-- the first fault of the names and shapes of declarations
unfoldable pub resolve_fault : List Decl → Option SpecFault
resolve_fault ds = fault_in (names_of ds) ds
