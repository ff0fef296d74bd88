-- The first scheme whose places are not the arguments of its operator, or which has a separator where none may stand.
use Rattle.std.specs.Prelude.{ℕ, suc, Bool, true, false, ◌&&◌, if◌then◌else◌, List, [], ◌∷◌, length, count_by, nat_eq, Option, Some, None, option_and_then}
use Rattle.sg_kinds.specs.Specification.{args_of, has_shape, is_list_shape}
use Rattle.sg_kinds.specs.declared.fault.SpecFault.{SpecFault}
use Rattle.sg_kinds.specs.declared.fault.SpecFault.TheVariants as fault
use Rattle.sg_ast.specs.declared.name.Name.{Name}
use Rattle.sg_ast.specs.declared.decl.Item.{Item}
use Rattle.sg_ast.specs.declared.decl.Item.TheVariants.{Child, Separates}
use Rattle.sg_ast.specs.declared.decl.SchemeDecl.{SchemeDecl}
use Rattle.sg_ast.specs.Declarations.{Decl, Schemes}
use Rattle.sg_ast.specs.FirstFault.{first}
use Rattle.sg_names.specs.declared.table.Table.{Table}
use Rattle.sg_names.specs.Lookups.{phylum_named, operator_named}

abbrev pub is_child : Item → Bool
is_child (Child how) = true
is_child item = false

-- a separator stands where it may, once, after the first place
abbrev pub separators_stand : Bool → ℕ → List Item → Bool
separators_stand may places [] = true
separators_stand may places (Child how ∷ items) = separators_stand may (suc places) items
separators_stand may places (Separates s ∷ items) = may && (nat_eq places 1 && separators_stand false places items)
separators_stand may places (item ∷ items) = separators_stand may places items

-- the scheme has a place for each argument, and at most one separator, in a list's binary operator between its two
-- places
abbrev pub is_fitting : Bool → ℕ → SchemeDecl → Bool
is_fitting pair arity s = nat_eq (count_by is_child s.items) arity && separators_stand pair 0 s.items

abbrev pub places_fault : Bool → ℕ → Name → SchemeDecl → Option SpecFault
places_fault pair arity op s = if is_fitting pair arity s then None else Some (fault.SchemeKids s.place op.text)

-- the binary operator of a list
abbrev pub is_list_pair : Table → ℕ → ℕ → Bool
is_list_pair t p k = has_shape t.phyla is_list_shape p && nat_eq (length (args_of t.ops k)) 2

-- the schemes of an operator of a phylum
abbrev pub operator_faults : Table → ℕ → ℕ → Name → List SchemeDecl → Option SpecFault
operator_faults t p k op schemes = first (places_fault (is_list_pair t p k) (length (args_of t.ops k)) op) schemes

abbrev pub phylum_faults : Table → ℕ → Name → List SchemeDecl → Option SpecFault
phylum_faults t p op schemes = option_and_then (λ k. operator_faults t p k op schemes) (operator_named t p op.text)

-- the schemes of a declaration
abbrev pub kids_fault : Table → Decl → Option SpecFault
kids_fault t (Schemes p op view schemes) = option_and_then (λ k. phylum_faults t k op schemes) (phylum_named t p.text)
kids_fault t d = None

-- the first of all
abbrev pub scheme_kids : Table → List Decl → Option SpecFault
scheme_kids t ds = first (kids_fault t) ds
