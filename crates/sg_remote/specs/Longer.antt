-- The table of names with far attributes: behind the written attributes of each phylum, one for each list whose far
-- attribute it bears.
use Rattle.std.specs.Prelude.{ℕ, List, [], ◌∷◌, map, slice_get, option_map, unwrap_or}
use Rattle.std.specs.List.{filter}
use Rattle.sg_kinds.specs.Far.{far_text}
use Rattle.sg_kinds.specs.Specification.{attrs_of}
use Rattle.sg_kinds.specs.Values.{Bytes}
use Rattle.sg_kinds.specs.declared.marks.Way.TheVariants.{Inherited}
use Rattle.sg_kinds.specs.declared.spec.Attr.{Attr}
use Rattle.sg_kinds.specs.declared.spec.Far.{Far}
use Rattle.sg_kinds.specs.declared.spec.Phylum.{Phylum}
use Rattle.sg_ast.specs.Declarations.{Decl}
use Rattle.sg_names.specs.More.{with_more}
use Rattle.sg_names.specs.Names as written
use Rattle.sg_names.specs.declared.table.Table.{Table}
use Rattle.sg_remote.specs.Atoms.{atoms}
use Rattle.sg_remote.specs.Bearing.{borne}
use Rattle.sg_remote.specs.Lists.{lists_of}
use Rattle.sg_remote.specs.Reach.{flag}
use Rattle.sg_remote.specs.declared.atoms.Atom.{Atom}

abbrev pub attr_name : List Phylum → Far → Bytes
attr_name phyla f = unwrap_or (option_map (λ (a : Attr). a.name) (slice_get (attrs_of phyla f.phylum) f.slot)) []

-- the type of a list's first attribute
abbrev pub far_type : List Phylum → List Far → ℕ
far_type phyla [] = 0
far_type phyla (f ∷ fs) = unwrap_or (option_map (λ (a : Attr). a.of) (slice_get (attrs_of phyla f.phylum) f.slot)) 0

abbrev pub far_attr : Table → List Far → Attr
far_attr t fs = record { name = far_text t.phyla fs; way = Inherited; of = far_type t.phyla fs; far = fs }

-- the far attributes of a phylum
abbrev pub more : Table → List Atom → List (List Far) → ℕ → List Attr
more t rs fss p = map (far_attr t) (filter (λ fs. flag (borne t rs fs) p) fss)

abbrev pub with_far : Table → List Decl → Table
with_far t ds = with_more t (more t (atoms t ds) (lists_of (atoms t ds)))

-- what the names of the declarations mean, with far attributes
unfoldable pub names_of : List Decl → Table
names_of ds = with_far (written.names_of ds) ds
