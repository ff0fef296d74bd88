-- The views of declarations, in the order of their first use.
use Rattle.std.specs.Prelude.{Bool, if◌then◌else◌, List, [], ◌∷◌, ◌++◌, length, map, flat_map, bytes_eq, Some}
use Rattle.std.specs.List.{list_any}
use Rattle.sg_kinds.specs.Instances.{below}
use Rattle.sg_kinds.specs.Values.{Bytes}
use Rattle.sg_kinds.specs.declared.spec.Scheme.{Scheme}
use Rattle.sg_kinds.specs.declared.views.Views.{Views}
use Rattle.sg_ast.specs.Declarations.{Decl}
use Rattle.sg_counts.specs.Crowds.{different}
use Rattle.sg_counts.specs.Limits.{views_in}
use Rattle.sg_names.specs.declared.table.Table.{Table}
use Rattle.sg_views.specs.Schemes.{schemes_of}

-- their names, each once
abbrev pub view_names : List Decl → List Bytes
view_names ds = different bytes_eq (flat_map views_in ds)

-- the schemes of each operator in a view
abbrev pub row_of : Table → List Decl → Bytes → List (List Scheme)
row_of t ds view = map (schemes_of t (Some view) ds) (below (length t.ops))

-- names with others behind them, each once
abbrev pub is_among : List Bytes → Bytes → Bool
is_among names n = list_any (λ m. bytes_eq m n) names

abbrev pub with_name : List Bytes → Bytes → List Bytes
with_name names n = if is_among names n then names else names ++ n ∷ []

abbrev pub with_names : List Bytes → List Bytes → List Bytes
with_names names [] = names
with_names names (n ∷ ns) = with_names (with_name names n) ns

-- the views
unfoldable pub views_of : Table → List Decl → Views
views_of t ds = record { names = view_names ds; rows = map (row_of t ds) (view_names ds) }
