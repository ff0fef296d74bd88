-- What the equations of operators lack, and how it is told.
use Rattle.std.specs.Prelude.{ℕ, zero, suc, Bool, ◌&&◌, if◌then◌else◌, List, [], ◌∷◌, ◌++◌, length, map, filter, flat_map, nat_eq, bytes_eq, slice_get, Option, Some, None, Result, Ok, Err, codes}
use Rattle.std.specs.List.{list_any}
use Rattle.sg_kinds.specs.Values.{Bytes}
use Rattle.sg_kinds.specs.declared.fault.Position.{Position}
use Rattle.sg_kinds.specs.declared.fault.PrintedVertex.TheVariants.{Argument}
use Rattle.sg_kinds.specs.declared.fault.SpecFault.{SpecFault}
use Rattle.sg_kinds.specs.declared.spec.Attr.{Attr}
use Rattle.sg_kinds.specs.declared.spec.Occurrence.{Occurrence}
use Rattle.sg_kinds.specs.declared.spec.Operator.{Operator}
use Rattle.sg_kinds.specs.declared.spec.Phylum.{Phylum}
use Rattle.sg_kinds.specs.Dependencies.{occurrence}
use Rattle.sg_kinds.specs.Instances.{below}
use Rattle.sg_kinds.specs.Specification.{args_of, attrs_of, phylum_name, is_way_inherited}
use Rattle.sg_kinds.specs.Typing.{slots_there}
use Rattle.sg_ast.specs.Declarations.{Decl}
use Rattle.sg_names.specs.Drafted.{drafted}
use Rattle.sg_names.specs.Names.{names_of}
use Rattle.sg_names.specs.declared.table.Table.{Table}
use Rattle.sg_equations.specs.Complete.{lacks_slot}
use Rattle.sg_equations.specs.Targets.{defined_in}
use Rattle.sg_equations.specs.declared.targets.Defined.{Defined}
use Rattle.sg_faults.specs.FaultLine.{line_text, vertex_word}
use Rattle.sg_printed.specs.Printed.{number_of, own_vertex}

-- what the equations of an operator define
abbrev pub defined_of : List Defined → ℕ → List Defined
defined_of defs op = filter (λ (d : Defined). nat_eq d.op op) defs

-- what an operator owes at an occurrence, of its first n slots, and its equations do not define
abbrev pub lacking_below : Table → List Defined → ℕ → ℕ → ℕ → List Occurrence
lacking_below t defs op at n = map (occurrence at) (filter (lacks_slot t defs op at) (below n))

abbrev pub lacking_at : Table → List Defined → ℕ → ℕ → List Occurrence
lacking_at t defs op at = lacking_below t defs op at (length (slots_there (drafted t) op at))

-- all that it lacks
abbrev pub lacking : Table → List Defined → ℕ → List Occurrence
lacking t defs op = flat_map (lacking_at t defs op) (below (suc (length (args_of t.ops op))))

-- an inherited attribute of the left side has this name and type
abbrev pub is_handed : List Attr → Attr → Bool
is_handed attrs a =
    list_any (λ (b : Attr). is_way_inherited b.way && (bytes_eq a.name b.name && nat_eq a.of b.of)) attrs

-- an attribute of an argument, and where the left side has the same the equation that hands it on
abbrev pub handed_text : Bytes → List Attr → Attr → Bytes
handed_text word attrs a = word ++ (if is_handed attrs a
    then codes ", such as " ++ (word ++ (codes " = $$." ++ (a.name ++ codes ";"))) else [])

abbrev pub attr_text : List Phylum → Operator → ℕ → ℕ → Option Attr → Bytes
attr_text phyla o k q None = []
attr_text phyla o k q (Some a) =
    handed_text (vertex_word (Argument (phylum_name phyla q) (number_of o k q) a.name)) (attrs_of phyla o.phylum) a

abbrev pub argument_text : List Phylum → Operator → ℕ → ℕ → Option ℕ → Bytes
argument_text phyla o k slot None = []
argument_text phyla o k slot (Some q) = attr_text phyla o k q (slice_get (attrs_of phyla q) slot)

abbrev pub slot_text : List Phylum → Operator → ℕ → ℕ → Bytes
slot_text phyla o zero slot = let attrs = attrs_of phyla o.phylum in
    vertex_word (own_vertex attrs o.locals slot (slice_get attrs slot))
slot_text phyla o (suc k) slot = argument_text phyla o k slot (slice_get o.args k)

-- an operator with its phylum and the line on which it is declared
abbrev pub owner_text : List Phylum → Operator → ℕ → Bytes
owner_text phyla o line = codes "  " ++ (phylum_name phyla o.phylum ++ (codes " : " ++ (o.name ++ (44 ∷ line_text line))))

-- a line for what it lacks, and for each of all these
abbrev pub lack_text : List Phylum → Operator → ℕ → Occurrence → Bytes
lack_text phyla o line x = owner_text phyla o line ++ (codes ", lacks " ++ (slot_text phyla o x.at x.slot ++ 10 ∷ []))

abbrev pub operator_text : List Phylum → Option Operator → Option Position → List Occurrence → Bytes
operator_text phyla (Some o) (Some place) lacks = flat_map (lack_text phyla o place.line) lacks
operator_text phyla o place lacks = []

-- all that an operator lacks; all that operators lack
abbrev pub lacks_of : Table → List Defined → ℕ → Bytes
lacks_of t defs op =
    operator_text t.phyla (slice_get t.ops op) (slice_get t.op_places op) (lacking t (defined_of defs op) op)

abbrev pub lacks_text : Table → List Defined → Bytes
lacks_text t defs = flat_map (lacks_of t defs) (below (length t.ops))

-- the same of the declarations of a text
abbrev pub text_lacks : Result (List Decl) SpecFault → Bytes
text_lacks (Ok ds) = let t = names_of ds in lacks_text t (defined_in t ds)
text_lacks (Err f) = []
