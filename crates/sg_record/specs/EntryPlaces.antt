-- Where the entries stand that the rows of entries go along, and the first of them in the text.
use Rattle.std.specs.Prelude.{◌≤◌, Bool, nat_eq, List, map, Option, Some, None}
use Rattle.std.specs.List.{AllByRecursion}
use Rattle.sg_kinds.specs.declared.fault.Position.{Position}
use Rattle.sg_kinds.specs.declared.fault.SpecFault.{SpecFault}
use Rattle.sg_kinds.specs.declared.fault.SpecFault.TheVariants.{EntryTwice, EntryType}
use Rattle.sg_ast.specs.declared.name.Name.{Name}
use Rattle.sg_names.specs.declared.table.Table.{Table}
use Rattle.sg_record.specs.Record.{phylum_in}

-- each entry at its phylum
abbrev pub entry_places : List Name → List Position
entry_places names = map (λ (n : Name). n.place) names

abbrev pub is_same_phylum : Table → Name → Name → Bool
is_same_phylum t a b = nat_eq (phylum_in t a.text) (phylum_in t b.text)

-- where the fault of an entry stands
abbrev pub fault_place : Option SpecFault → Option Position
fault_place (Some (EntryTwice place n)) = Some place
fault_place (Some (EntryType place n)) = Some place
fault_place f = None

-- none of these entries stands before this place
abbrev pub IsFirstEntry : List Name → Position → Type 0
IsFirstEntry names p = AllByRecursion (λ (n : Name). p.token ≤ n.place.token) names
