-- The faults of nonterminals' results, of the root, of lists and of optional phyla.
use Rattle.std.specs.Prelude.{ℕ, Bool, true, false, not, ◌&&◌, if◌then◌else◌, nat_eq, length, List, [], ◌∷◌, flat_map, Option, Some, None, option_map, option_and_then, unwrap_or, slice_get}
use Rattle.std.specs.List.{list_any}
use Rattle.sg_kinds.specs.Specification.{is_way_inherited, attrs_of, args_of}
use Rattle.sg_kinds.specs.declared.spec.Attr.{Attr}
use Rattle.sg_kinds.specs.declared.spec.Phylum.{Phylum}
use Rattle.sg_kinds.specs.declared.fault.SpecFault.{SpecFault}
use Rattle.sg_kinds.specs.declared.fault.SpecFault.TheVariants as fault
use Rattle.sg_ast.specs.declared.name.Name.{Name}
use Rattle.sg_ast.specs.Declarations.{Decl, Root, Listed, Optional}
use Rattle.sg_ast.specs.FirstFault.{first}
use Rattle.sg_names.specs.declared.table.Table.{Table}
use Rattle.sg_names.specs.declared.table.Nonterminal.{Nonterminal}
use Rattle.sg_names.specs.Lookups.{phylum_named}

-- a nonterminal that has not exactly one synthesized attribute, or has an inherited one
abbrev pub has_one_result : List Attr → Bool
has_one_result (a ∷ []) = not (is_way_inherited a.way)
has_one_result attrs = false

abbrev pub result_count_at : Nonterminal → Option SpecFault
result_count_at n = if has_one_result n.attrs then None else Some (fault.ResultCount n.place n.name)

unfoldable pub result_count : Table → Option SpecFault
result_count t = first result_count_at t.nonterminals

-- the names in the declarations of roots
abbrev pub root_names : Decl → List Name
root_names (Root n) = n ∷ []
root_names d = []

abbrev pub roots : List Decl → List Name
roots ds = flat_map root_names ds

unfoldable pub root_count : List Decl → Option SpecFault
root_count ds = if nat_eq (length (roots ds)) 1 then None else Some (fault.RootCount (length (roots ds)))

-- the operators of a phylum of a name
abbrev pub ops_of : Table → Name → List ℕ
ops_of t n = unwrap_or (option_map (λ (x : Phylum). x.ops)
    (option_and_then (slice_get t.phyla) (phylum_named t n.text))) []

abbrev pub is_nullary : List ℕ → Bool
is_nullary [] = true
is_nullary args = false

-- an element that is no such list, and a list of them
abbrev pub is_pair_of : Option ℕ → List ℕ → Bool
is_pair_of (Some p) (e ∷ q ∷ []) = not (nat_eq e p) && nat_eq q p
is_pair_of p args = false

-- a nullary and then a binary operator
abbrev pub is_list : Table → Option ℕ → List ℕ → Bool
is_list t p (nil ∷ pair ∷ []) = is_nullary (args_of t.ops nil) && is_pair_of p (args_of t.ops pair)
is_list t p ops = false

abbrev pub list_names : Decl → List Name
list_names (Listed n) = n ∷ []
list_names (Optional true n) = n ∷ []
list_names d = []

abbrev pub list_shape_at : Table → Name → Option SpecFault
list_shape_at t n = if is_list t (phylum_named t n.text) (ops_of t n) then None else Some
    (fault.ListShape n.place n.text)

unfoldable pub list_shape : Table → List Decl → Option SpecFault
list_shape t ds = first (list_shape_at t) (flat_map list_names ds)

-- at least two operators, of which the first is nullary
abbrev pub is_optional : Table → List ℕ → Bool
is_optional t (a ∷ b ∷ ops) = is_nullary (args_of t.ops a)
is_optional t ops = false

abbrev pub optional_names : Decl → List Name
optional_names (Optional false n) = n ∷ []
optional_names d = []

abbrev pub optional_shape_at : Table → Name → Option SpecFault
optional_shape_at t n = if is_optional t (ops_of t n) then None else Some (fault.OptionalShape n.place n.text)

unfoldable pub optional_shape : Table → List Decl → Option SpecFault
optional_shape t ds = first (optional_shape_at t) (flat_map optional_names ds)

-- a root phylum with an inherited attribute
abbrev pub is_inherited : Attr → Bool
is_inherited a = is_way_inherited a.way

abbrev pub inherits : Table → Name → Bool
inherits t n = list_any is_inherited (unwrap_or (option_map (attrs_of t.phyla) (phylum_named t n.text)) [])

abbrev pub root_inherits_at : Table → Name → Option SpecFault
root_inherits_at t n = if inherits t n then Some (fault.RootInherits n.place n.text) else None

unfoldable pub root_inherits : Table → List Decl → Option SpecFault
root_inherits t ds = first (root_inherits_at t) (roots ds)
