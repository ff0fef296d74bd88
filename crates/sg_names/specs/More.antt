-- A table whose phyla have further attributes.
use Rattle.std.specs.Prelude.{ℕ, List, ◌++◌}
use Rattle.sg_kinds.specs.declared.spec.Attr.{Attr}
use Rattle.sg_kinds.specs.declared.spec.Phylum.{Phylum}
use Rattle.sg_names.specs.Names.{map_from}
use Rattle.sg_names.specs.declared.table.Table.{Table}

-- attributes behind those of a phylum, by its number
abbrev pub behind : List Attr → Phylum → Phylum
behind more x = record x { attrs = x.attrs ++ more }

abbrev pub and_attrs : (ℕ → List Attr) → ℕ → Phylum → Phylum
and_attrs more p x = behind (more p) x

abbrev pub with_more : Table → (ℕ → List Attr) → Table
with_more t more = record t { phyla = map_from (and_attrs more) 0 t.phyla }
