-- The faults of entries: a second one of a phylum; one whose attribute has a type that is not accepted where its
-- phylum is wanted.
use Rattle.std.specs.Prelude.{ℕ, if◌then◌else◌, nat_eq, List, [], ◌∷◌, map, flat_map, Option, Some, None, slice_get, option_map, option_and_then}
use Rattle.sg_kinds.specs.declared.fault.SpecFault.{SpecFault}
use Rattle.sg_kinds.specs.declared.fault.SpecFault.TheVariants as fault
use Rattle.sg_ast.specs.declared.name.Name.{Name}
use Rattle.sg_ast.specs.Declarations.{Decl, Entry}
use Rattle.sg_ast.specs.FirstFault.{first, first_repeat}
use Rattle.sg_names.specs.declared.table.Table.{Table}
use Rattle.sg_names.specs.Lookups.{usable_named, symbol_type}
use Rattle.sg_types.specs.Types.{fits_where}
use Rattle.sg_record.specs.Record.{phylum_in}

-- the phyla of entries, as they are written
abbrev pub entered_at : Decl → List Name
entered_at (Entry n m a) = n ∷ []
entered_at d = []

abbrev pub entered : List Decl → List Name
entered ds = flat_map entered_at ds

-- the first phylum that has an entry before
abbrev pub twice_at : List Name → Option ℕ → Option SpecFault
twice_at names place = option_map (λ (n : Name). fault.EntryTwice n.place n.text)
    (option_and_then (slice_get names) place)

abbrev pub entry_twice : Table → List Decl → Option SpecFault
entry_twice t ds = twice_at (entered ds) (first_repeat nat_eq (map (λ (n : Name). phylum_in t n.text) (entered ds)))

-- the first attribute whose type is not accepted
abbrev pub type_fault : Table → Decl → Option SpecFault
type_fault t (Entry n m a) = if fits_where t (usable_named t n.text) (symbol_type t m.text a.text) then None else Some
    (fault.EntryType n.place n.text)
type_fault t d = None

abbrev pub entry_type : Table → List Decl → Option SpecFault
entry_type t ds = first (type_fault t) ds
