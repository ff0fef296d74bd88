-- The different lists of references to enclosing nodes, in the order of their first use.
use Rattle.std.specs.Prelude.{Bool, if◌then◌else◌, List, [], ◌∷◌, ◌++◌}
use Rattle.std.specs.List.{list_any}
use Rattle.sg_kinds.specs.Far.{same_far}
use Rattle.sg_kinds.specs.declared.spec.Far.{Far}
use Rattle.sg_ast.specs.Declarations.{Decl}
use Rattle.sg_names.specs.declared.table.Table.{Table}
use Rattle.sg_remote.specs.Atoms.{atoms}
use Rattle.sg_remote.specs.declared.atoms.Atom.{Atom}

abbrev pub is_among : List (List Far) → List Far → Bool
is_among fss fs = list_any (λ gs. same_far gs fs) fss

abbrev pub with_list : List (List Far) → List Far → List (List Far)
with_list fss fs = if is_among fss fs then fss else fss ++ fs ∷ []

abbrev pub lists_from : List (List Far) → List Atom → List (List Far)
lists_from fss [] = fss
lists_from fss (a ∷ rs) = lists_from (with_list fss a.list) rs

abbrev pub lists_of : List Atom → List (List Far)
lists_of rs = lists_from [] rs

abbrev pub lists : Table → List Decl → List (List Far)
lists t ds = lists_of (atoms t ds)
